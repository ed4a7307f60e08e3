-- The order of the rational numbers: total, and kept by sums and by positive factors.
use Rattle.std.proofs.Common.{◌≡◌, ◌≢◌, ℕ, ◌+◌, ◌-◌, ◌*◌, ◌≤◌, ◌<◌, mul-pos, ◌⊎◌, inl, inr, sym, subst, arith, ℤ, pos, ◌*ℤ◌, ◌≤ℤ◌, ◌<ℤ◌}
use Rattle.std.proofs.lemmas.Int.{ints, by_lt_z}
use Rattle.std.proofs.Math.Nat.{mul-le-mul_right, mul-lt-mul_of_pos_right}
use Rattle.number_laws.proofs.Ring.{var, plus_of, minus_of}
use Rattle.fraction_laws.specs.Rational.{ℚ, whole, ◌+ℚ◌, ◌-ℚ◌, ◌*ℚ◌, inverse, ◌≤ℚ◌, ◌<ℚ◌}
use Rattle.fraction_laws.proofs.Cross.{same_from_cross}
use Rattle.fraction_laws.proofs.Field.{mul-inverse, mul-zero}
use Rattle.fraction_laws.proofs.Expression.{this, int, add, sub, mul, same_meaning, at_most_ℚ, at_most_of_ℚ, below_ℚ, below_of_ℚ}

pub le_refl : (a : ℚ) → a ≤ℚ a
le_refl a = at_most_ℚ (this a) (this a) (omega arith)

pub le_antisymm : (a b : ℚ) → a ≤ℚ b → b ≤ℚ a → a ≡ b
le_antisymm a b h k = same_from_cross a b (both (a.num *ℤ pos b.den) (b.num *ℤ pos a.den) h.cross k.cross)
  where
    both : (x y : ℤ) → x ≤ℤ y → y ≤ℤ x → x ≡ y
    both x y h k = omega (arith, ints)

pub le_or_lt : (a b : ℚ) → (a ≤ℚ b) ⊎ (b <ℚ a)
le_or_lt a b =
    by_lt_z (b.num *ℤ pos a.den) (a.num *ℤ pos b.den)
    (λ lt. inr (record { cross = lt }))
    (λ ge. inl (record { cross = ge }))

pub le_of_lt : (a b : ℚ) → a <ℚ b → a ≤ℚ b
le_of_lt a b h = record { cross = weaker (a.num *ℤ pos b.den) (b.num *ℤ pos a.den) h.cross }
  where
    weaker : (x y : ℤ) → x <ℤ y → x ≤ℤ y
    weaker x y h = omega (arith, ints)

pub not-le_of_lt : (a b : ℚ) → a <ℚ b → b ≤ℚ a → ⊥
not-le_of_lt a b h k = clash (a.num *ℤ pos b.den) (b.num *ℤ pos a.den) h.cross k.cross
  where
    clash : (x y : ℤ) → x <ℤ y → y ≤ℤ x → ⊥
    clash x y h k = omega (arith, ints)

-- the sign of the difference is the order, in both directions
pub nonnegative_difference : (a b : ℚ) → a ≤ℚ b → whole (pos 0) ≤ℚ b -ℚ a
nonnegative_difference a b h =
    at_most_ℚ (int (pos 0)) (sub (this b) (this a)) (omega (arith, at_most_of_ℚ (this a) (this b) h))

pub le_from_difference : (a b : ℚ) → whole (pos 0) ≤ℚ b -ℚ a → a ≤ℚ b
le_from_difference a b h =
    at_most_ℚ (this a) (this b) (omega (arith, at_most_of_ℚ (int (pos 0)) (sub (this b) (this a)) h))

pub positive_difference : (a b : ℚ) → a <ℚ b → whole (pos 0) <ℚ b -ℚ a
positive_difference a b h =
    below_ℚ (int (pos 0)) (sub (this b) (this a)) (omega (arith, below_of_ℚ (this a) (this b) h))

pub lt_from_difference : (a b : ℚ) → whole (pos 0) <ℚ b -ℚ a → a <ℚ b
lt_from_difference a b h =
    below_ℚ (this a) (this b) (omega (arith, below_of_ℚ (int (pos 0)) (sub (this b) (this a)) h))

-- the products of two larger and of two smaller numbers are together at least the mixed products
rearranged : (x y p q : ℕ) → (x + p) * y + x * (y + q) ≤ (x + p) * (y + q) + x * y
rearranged x y p q = omega arith

rearranged_strict : (x y p q : ℕ) → 1 ≤ p * q → (x + p) * y + x * (y + q) < (x + p) * (y + q) + x * y
rearranged_strict x y p q h = omega arith

sorted_products : (x y u v : ℕ) → x ≤ u → y ≤ v → u * y + x * v ≤ u * v + x * y
sorted_products x y u v h k =
    let e : x + (u - x) ≡ u = omega arith in
    let f : y + (v - y) ≡ v = omega arith in
    subst (λ w. w * y + x * v ≤ w * v + x * y) e (subst (λ w. (x + (u - x)) * y + x * w ≤ (x + (u - x)) * w + x * y) f (rearranged x y (u - x) (v - y)))

sorted_products_strict : (x y u v : ℕ) → x < u → y < v → u * y + x * v < u * v + x * y
sorted_products_strict x y u v h k =
    let e : x + (u - x) ≡ u = omega arith in
    let f : y + (v - y) ≡ v = omega arith in
    subst (λ w. w * y + x * v < w * v + x * y) e
    (subst (λ w. (x + (u - x)) * y + x * w < (x + (u - x)) * w + x * y) f
    (rearranged_strict x y (u - x) (v - y) (mul-pos (omega arith) (omega arith))))

-- sums and products of numbers that are not negative, and of positive ones
module _ (a b : ℚ) where
  pub add-nonnegative : whole (pos 0) ≤ℚ a → whole (pos 0) ≤ℚ b → whole (pos 0) ≤ℚ a +ℚ b
  add-nonnegative h k =
      let f = mul-le-mul_right b.den (at_most_of_ℚ (int (pos 0)) (this a) h) in
      let g = mul-le-mul_right a.den (at_most_of_ℚ (int (pos 0)) (this b) k) in
      at_most_ℚ (int (pos 0)) (add (this a) (this b)) (omega (arith, f, g))

  pub add-positive : whole (pos 0) <ℚ a → whole (pos 0) ≤ℚ b → whole (pos 0) <ℚ a +ℚ b
  add-positive h k =
      let f = mul-lt-mul_of_pos_right (below_of_ℚ (int (pos 0)) (this a) h) b.positive in
      let g = mul-le-mul_right a.den (at_most_of_ℚ (int (pos 0)) (this b) k) in
      below_ℚ (int (pos 0)) (add (this a) (this b)) (omega (arith, f, g))

  pub mul-nonnegative : whole (pos 0) ≤ℚ a → whole (pos 0) ≤ℚ b → whole (pos 0) ≤ℚ a *ℚ b
  mul-nonnegative h k =
      let f = at_most_of_ℚ (int (pos 0)) (this a) h in
      let g = at_most_of_ℚ (int (pos 0)) (this b) k in
      at_most_ℚ (int (pos 0)) (mul (this a) (this b))
      (omega (arith, sorted_products (minus_of (var a.num)) (minus_of (var b.num)) (plus_of (var a.num)) (plus_of (var b.num)) (omega (arith, f)) (omega (arith, g))))

  pub mul-positive : whole (pos 0) <ℚ a → whole (pos 0) <ℚ b → whole (pos 0) <ℚ a *ℚ b
  mul-positive h k =
      let f = below_of_ℚ (int (pos 0)) (this a) h in
      let g = below_of_ℚ (int (pos 0)) (this b) k in
      below_ℚ (int (pos 0)) (mul (this a) (this b))
      (omega (arith, sorted_products_strict (minus_of (var a.num)) (minus_of (var b.num)) (plus_of (var a.num)) (plus_of (var b.num)) (omega (arith, f)) (omega (arith, g))))

pub le_trans : (a b c : ℚ) → a ≤ℚ b → b ≤ℚ c → a ≤ℚ c
le_trans a b c h k =
    le_from_difference a c
    (subst (λ q. whole (pos 0) ≤ℚ q)
    (same_meaning (add (sub (this c) (this b)) (sub (this b) (this a))) (sub (this c) (this a)) (omega arith))
    (add-nonnegative (c -ℚ b) (b -ℚ a) (nonnegative_difference b c k) (nonnegative_difference a b h)))

pub lt_of_lt_of_le : (a b c : ℚ) → a <ℚ b → b ≤ℚ c → a <ℚ c
lt_of_lt_of_le a b c h k =
    lt_from_difference a c
    (subst (λ q. whole (pos 0) <ℚ q)
    (same_meaning (add (sub (this b) (this a)) (sub (this c) (this b))) (sub (this c) (this a)) (omega arith))
    (add-positive (b -ℚ a) (c -ℚ b) (positive_difference a b h) (nonnegative_difference b c k)))

pub lt_of_le_of_lt : (a b c : ℚ) → a ≤ℚ b → b <ℚ c → a <ℚ c
lt_of_le_of_lt a b c h k =
    lt_from_difference a c
    (subst (λ q. whole (pos 0) <ℚ q)
    (same_meaning (add (sub (this c) (this b)) (sub (this b) (this a))) (sub (this c) (this a)) (omega arith))
    (add-positive (c -ℚ b) (b -ℚ a) (positive_difference b c k) (nonnegative_difference a b h)))

-- both sides of two orders are added
pub add_le_add : (a b c d : ℚ) → a ≤ℚ b → c ≤ℚ d → a +ℚ c ≤ℚ b +ℚ d
add_le_add a b c d h k =
    le_from_difference (a +ℚ c) (b +ℚ d)
    (subst (λ q. whole (pos 0) ≤ℚ q)
    (same_meaning (add (sub (this b) (this a)) (sub (this d) (this c))) (sub (add (this b) (this d)) (add (this a) (this c))) (omega arith))
    (add-nonnegative (b -ℚ a) (d -ℚ c) (nonnegative_difference a b h) (nonnegative_difference c d k)))

pub add_lt_add_of_lt_of_le : (a b c d : ℚ) → a <ℚ b → c ≤ℚ d → a +ℚ c <ℚ b +ℚ d
add_lt_add_of_lt_of_le a b c d h k =
    lt_from_difference (a +ℚ c) (b +ℚ d)
    (subst (λ q. whole (pos 0) <ℚ q)
    (same_meaning (add (sub (this b) (this a)) (sub (this d) (this c))) (sub (add (this b) (this d)) (add (this a) (this c))) (omega arith))
    (add-positive (b -ℚ a) (d -ℚ c) (positive_difference a b h) (nonnegative_difference c d k)))

-- a factor that is not negative keeps an order
pub mul_le_mul_left : (a b c : ℚ) → whole (pos 0) ≤ℚ c → a ≤ℚ b → c *ℚ a ≤ℚ c *ℚ b
mul_le_mul_left a b c some h =
    le_from_difference (c *ℚ a) (c *ℚ b)
    (subst (λ q. whole (pos 0) ≤ℚ q)
    (same_meaning (mul (this c) (sub (this b) (this a))) (sub (mul (this c) (this b)) (mul (this c) (this a))) (omega arith))
    (mul-nonnegative c (b -ℚ a) some (nonnegative_difference a b h)))

-- a positive factor keeps a strict order
pub mul_lt_mul_left : (a b c : ℚ) → whole (pos 0) <ℚ c → a <ℚ b → c *ℚ a <ℚ c *ℚ b
mul_lt_mul_left a b c some h =
    lt_from_difference (c *ℚ a) (c *ℚ b)
    (subst (λ q. whole (pos 0) <ℚ q)
    (same_meaning (mul (this c) (sub (this b) (this a))) (sub (mul (this c) (this b)) (mul (this c) (this a))) (omega arith))
    (mul-positive c (b -ℚ a) some (positive_difference a b h)))

-- a positive factor is cancelled from an order
pub le_of_mul_le_mul_left : (a b c : ℚ) → whole (pos 0) <ℚ c → c *ℚ a ≤ℚ c *ℚ b → a ≤ℚ b
le_of_mul_le_mul_left a b c some h =
    elim (le_or_lt a b) [ inl k ↦ k | inr k ↦ absurd (not-le_of_lt (c *ℚ b) (c *ℚ a) (mul_lt_mul_left b a c some k) h) ]

pub zero_below_one : whole (pos 0) <ℚ whole (pos 1)
zero_below_one = below_ℚ (int (pos 0)) (int (pos 1)) (omega arith)

-- a positive number isn't 0
pub ne_of_positive : (a : ℚ) → whole (pos 0) <ℚ a → a ≢ whole (pos 0)
ne_of_positive a h e = not-le_of_lt (whole (pos 0)) a h (subst (λ q. q ≤ℚ whole (pos 0)) (sym e) (le_refl (whole (pos 0))))

-- the inverse of a positive number is positive
pub inverse-positive : (a : ℚ) → whole (pos 0) <ℚ a → whole (pos 0) <ℚ inverse a
inverse-positive a h =
    elim (le_or_lt (inverse a) (whole (pos 0))) [
      | inl k ↦
          absurd
          (not-le_of_lt (whole (pos 0)) (whole (pos 1)) zero_below_one
          (subst (λ q. q ≤ℚ whole (pos 0)) (mul-inverse a (ne_of_positive a h))
          (subst (λ q. a *ℚ inverse a ≤ℚ q) (mul-zero a) (mul_le_mul_left (inverse a) (whole (pos 0)) a (le_of_lt (whole (pos 0)) a h) k))))
      | inr k ↦ k
    ]
