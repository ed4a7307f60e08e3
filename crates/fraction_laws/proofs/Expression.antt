-- Laws of sums, differences and products of rational numbers, by multiplying out their numerators and denominators.
--     Expression      a sum, a difference or a product, as it is written; `meaning` is what it stands for
--     top, bottom     the numerator, a term in ℤ, and the denominator that it multiplies out to
--     same_meaning    two expressions with equal cross products have one meaning: the last argument is `omega arith`
--     at_most_ℚ, below_ℚ      the same for `≤ℚ` and `<ℚ`
use Rattle.std.proofs.Common.{◌≡◌, ℕ, ◌+◌, ◌*◌, ◌≤◌, ◌<◌, refl, sym, subst, ap, ◌∙◌, arith, mul-pos, ℤ, pos, ◌+ℤ◌, ◌-ℤ◌, ◌*ℤ◌, ◌≤ℤ◌, ◌<ℤ◌}
use Rattle.std.proofs.Math.Nat.{le_of_mul-le-mul_right, mul-le-mul_right, mul-lt-mul_of_pos_right, lt_of_mul-lt-mul_right}
use Rattle.number_laws.proofs.Ring.{Term, var, nat, plus, minus, times, value, plus_of, minus_of, same_value, at_most, at_most_of, below, below_of}
use Rattle.fraction_laws.specs.Rational.{ℚ, whole, ◌+ℚ◌, ◌-ℚ◌, ◌*ℚ◌, neg_ℚ, ◌≤ℚ◌, ◌<ℚ◌}
use Rattle.fraction_laws.proofs.Cross.{IsQuotient, IsQuotient-parts, IsQuotient-ratio, same_from_cross, cross_from_same, cancelled_ℤ}

-- a positive factor on both sides of an order in ℤ
pub scaled_ℤ : (x y : ℤ) (d : ℕ) → x ≤ℤ y → (x *ℤ pos d) ≤ℤ (y *ℤ pos d)
scaled_ℤ x y d h =
    let f = at_most_of (var x) (var y) h in
    let g : (plus_of (var x) + minus_of (var y)) * d ≤ (plus_of (var y) + minus_of (var x)) * d = mul-le-mul_right d f in
    at_most (times (var x) (nat d)) (times (var y) (nat d)) (omega (arith, g))

pub unscaled_ℤ : (x y : ℤ) (d : ℕ) → 1 ≤ d → (x *ℤ pos d) ≤ℤ (y *ℤ pos d) → x ≤ℤ y
unscaled_ℤ x y d some h =
    let f = at_most_of (times (var x) (nat d)) (times (var y) (nat d)) h in
    at_most (var x) (var y) (le_of_mul-le-mul_right {k = d} (omega (arith, f)) some)

pub scaled_below : (x y : ℤ) (d : ℕ) → 1 ≤ d → x <ℤ y → (x *ℤ pos d) <ℤ (y *ℤ pos d)
scaled_below x y d some h =
    let f = below_of (var x) (var y) h in
    let g : (plus_of (var x) + minus_of (var y)) * d < (plus_of (var y) + minus_of (var x)) * d = mul-lt-mul_of_pos_right f some in
    below (times (var x) (nat d)) (times (var y) (nat d)) (omega (arith, g))

pub unscaled_below : (x y : ℤ) (d : ℕ) → (x *ℤ pos d) <ℤ (y *ℤ pos d) → x <ℤ y
unscaled_below x y d h =
    let f = below_of (times (var x) (nat d)) (times (var y) (nat d)) h in
    let g : (plus_of (var x) + minus_of (var y)) * d < (plus_of (var y) + minus_of (var x)) * d = omega (arith, f) in
    below (var x) (var y) (lt_of_mul-lt-mul_right d g)

-- the order of two numbers is that of any two quotients that they are
module _ (a b n m : ℤ) (x y d e : ℕ) (p : a *ℤ pos d ≡ n *ℤ pos x) (q : b *ℤ pos e ≡ m *ℤ pos y) where
  left_side : (n *ℤ pos e) *ℤ pos (x * y) ≡ (a *ℤ pos y) *ℤ pos (d * e)
  left_side =
      same_value (times (times (var n) (nat e)) (nat (x * y))) (times (times (times (var n) (nat x)) (nat y)) (nat e)) (omega arith)
      ∙ ap (λ z. (z *ℤ pos y) *ℤ pos e) (sym p)
      ∙ same_value (times (times (times (var a) (nat d)) (nat y)) (nat e)) (times (times (var a) (nat y)) (nat (d * e))) (omega arith)

  right_side : (m *ℤ pos d) *ℤ pos (x * y) ≡ (b *ℤ pos x) *ℤ pos (d * e)
  right_side =
      same_value (times (times (var m) (nat d)) (nat (x * y))) (times (times (times (var m) (nat y)) (nat x)) (nat d)) (omega arith)
      ∙ ap (λ z. (z *ℤ pos x) *ℤ pos d) (sym q)
      ∙ same_value (times (times (times (var b) (nat e)) (nat x)) (nat d)) (times (times (var b) (nat x)) (nat (d * e))) (omega arith)

  module _ (some_d : 1 ≤ d) (some_e : 1 ≤ e) where
    same_sides : n *ℤ pos e ≡ m *ℤ pos d → a *ℤ pos y ≡ b *ℤ pos x
    same_sides h =
        cancelled_ℤ (a *ℤ pos y) (b *ℤ pos x) (d * e) (mul-pos some_d some_e)
        (sym left_side ∙ ap (λ z. z *ℤ pos (x * y)) h ∙ right_side)

    ordered_sides : (n *ℤ pos e) ≤ℤ (m *ℤ pos d) → (a *ℤ pos y) ≤ℤ (b *ℤ pos x)
    ordered_sides h =
        unscaled_ℤ (a *ℤ pos y) (b *ℤ pos x) (d * e) (mul-pos some_d some_e)
        (subst (λ z. z ≤ℤ ((b *ℤ pos x) *ℤ pos (d * e))) left_side
        (subst (λ z. ((n *ℤ pos e) *ℤ pos (x * y)) ≤ℤ z) right_side
        (scaled_ℤ (n *ℤ pos e) (m *ℤ pos d) (x * y) h)))

  module _ (some_x : 1 ≤ x) (some_y : 1 ≤ y) where
    below_sides : (n *ℤ pos e) <ℤ (m *ℤ pos d) → (a *ℤ pos y) <ℤ (b *ℤ pos x)
    below_sides h =
        unscaled_below (a *ℤ pos y) (b *ℤ pos x) (d * e)
        (subst (λ z. z <ℤ ((b *ℤ pos x) *ℤ pos (d * e))) left_side
        (subst (λ z. ((n *ℤ pos e) *ℤ pos (x * y)) <ℤ z) right_side
        (scaled_below (n *ℤ pos e) (m *ℤ pos d) (x * y) (mul-pos some_x some_y) h)))

-- two numbers by any quotients that they are: equal, in order, and strictly in order
module _ (q r : ℚ) (n m : ℤ) (d e : ℕ) (p : IsQuotient q n d) (s : IsQuotient r m e) where
  pub same_quotients : n *ℤ pos e ≡ m *ℤ pos d → q ≡ r
  same_quotients h = same_from_cross q r (same_sides q.num r.num n m q.den r.den d e p.cross s.cross p.some s.some h)

  pub cross_of_quotients : q ≡ r → n *ℤ pos e ≡ m *ℤ pos d
  cross_of_quotients h =
      same_sides n m q.num r.num d e q.den r.den (sym p.cross) (sym s.cross) q.positive r.positive
      (cross_from_same q r h)

  pub ordered_quotients : (n *ℤ pos e) ≤ℤ (m *ℤ pos d) → q ≤ℚ r
  ordered_quotients h = record { cross = ordered_sides q.num r.num n m q.den r.den d e p.cross s.cross p.some s.some h }

  pub order_of_quotients : q ≤ℚ r → (n *ℤ pos e) ≤ℤ (m *ℤ pos d)
  order_of_quotients h =
      ordered_sides n m q.num r.num d e q.den r.den (sym p.cross) (sym s.cross) q.positive r.positive h.cross

  pub below_quotients : (n *ℤ pos e) <ℤ (m *ℤ pos d) → q <ℚ r
  below_quotients h = record { cross = below_sides q.num r.num n m q.den r.den d e p.cross s.cross q.positive r.positive h }

  pub strictness_of_quotients : q <ℚ r → (n *ℤ pos e) <ℤ (m *ℤ pos d)
  strictness_of_quotients h =
      below_sides n m q.num r.num d e q.den r.den (sym p.cross) (sym s.cross) p.some s.some h.cross

-- a quotient of another numerator and denominator with the same cross product
pub IsQuotient-same : (q : ℚ) (n m : ℤ) (d e : ℕ) → IsQuotient q n d → 1 ≤ e → n *ℤ pos e ≡ m *ℤ pos d → IsQuotient q m e
IsQuotient-same q n m d e p some h = record {
  some = some;
  cross = same_sides q.num m n m q.den e d e p.cross refl p.some some h;
}

-- the quotients that sums, differences and products are
module _ (q r : ℚ) (n m : ℤ) (d e : ℕ) (p : IsQuotient q n d) (s : IsQuotient r m e) where
  pub IsQuotient-plus : IsQuotient (q +ℚ r) (n *ℤ pos e +ℤ m *ℤ pos d) (d * e)
  unfolding ◌+ℚ◌
  IsQuotient-plus =
      IsQuotient-same (q +ℚ r) (q.num *ℤ pos r.den +ℤ r.num *ℤ pos q.den) (n *ℤ pos e +ℤ m *ℤ pos d) (q.den * r.den) (d * e)
      (IsQuotient-ratio (q.num *ℤ pos r.den +ℤ r.num *ℤ pos q.den) (q.den * r.den) (mul-pos q.positive r.positive))
      (mul-pos p.some s.some)
      (sum_sides q.num r.num n m q.den r.den d e p.cross s.cross)
    where
      sum_sides : (a b n m : ℤ) (x y d e : ℕ) → a *ℤ pos d ≡ n *ℤ pos x → b *ℤ pos e ≡ m *ℤ pos y
          → (a *ℤ pos y +ℤ b *ℤ pos x) *ℤ pos (d * e) ≡ (n *ℤ pos e +ℤ m *ℤ pos d) *ℤ pos (x * y)
      sum_sides a b n m x y d e f g =
          same_value (times (plus (times (var a) (nat y)) (times (var b) (nat x))) (nat (d * e)))
          (plus (times (times (var a) (nat d)) (nat (y * e))) (times (times (var b) (nat e)) (nat (x * d)))) (omega arith)
          ∙ ap (λ z. z *ℤ pos (y * e) +ℤ (b *ℤ pos e) *ℤ pos (x * d)) f
          ∙ ap (λ z. (n *ℤ pos x) *ℤ pos (y * e) +ℤ z *ℤ pos (x * d)) g
          ∙ same_value (plus (times (times (var n) (nat x)) (nat (y * e))) (times (times (var m) (nat y)) (nat (x * d))))
          (times (plus (times (var n) (nat e)) (times (var m) (nat d))) (nat (x * y))) (omega arith)

  pub IsQuotient-times : IsQuotient (q *ℚ r) (n *ℤ m) (d * e)
  unfolding ◌*ℚ◌
  IsQuotient-times =
      IsQuotient-same (q *ℚ r) (q.num *ℤ r.num) (n *ℤ m) (q.den * r.den) (d * e)
      (IsQuotient-ratio (q.num *ℤ r.num) (q.den * r.den) (mul-pos q.positive r.positive))
      (mul-pos p.some s.some)
      (product_sides q.num r.num n m q.den r.den d e p.cross s.cross)
    where
      product_sides : (a b n m : ℤ) (x y d e : ℕ) → a *ℤ pos d ≡ n *ℤ pos x → b *ℤ pos e ≡ m *ℤ pos y
          → (a *ℤ b) *ℤ pos (d * e) ≡ (n *ℤ m) *ℤ pos (x * y)
      product_sides a b n m x y d e f g =
          same_value (times (times (var a) (var b)) (nat (d * e))) (times (times (var a) (nat d)) (times (var b) (nat e))) (omega arith)
          ∙ ap (λ z. z *ℤ (b *ℤ pos e)) f
          ∙ ap (λ z. (n *ℤ pos x) *ℤ z) g
          ∙ same_value (times (times (var n) (nat x)) (times (var m) (nat y))) (times (times (var n) (var m)) (nat (x * y))) (omega arith)

pub IsQuotient-neg : (q : ℚ) (n : ℤ) (d : ℕ) → IsQuotient q n d → IsQuotient (neg_ℚ q) (pos 0 -ℤ n) d
unfolding neg_ℚ
IsQuotient-neg q n d p =
    IsQuotient-same (neg_ℚ q) (pos 0 -ℤ q.num) (pos 0 -ℤ n) q.den d (IsQuotient-ratio (pos 0 -ℤ q.num) q.den q.positive) p.some
    (neg_sides q.num n q.den d p.cross)
  where
    neg_sides : (a n : ℤ) (x d : ℕ) → a *ℤ pos d ≡ n *ℤ pos x → (pos 0 -ℤ a) *ℤ pos d ≡ (pos 0 -ℤ n) *ℤ pos x
    neg_sides a n x d f =
        same_value (times (minus (nat 0) (var a)) (nat d)) (minus (nat 0) (times (var a) (nat d))) (omega arith)
        ∙ ap (λ z. pos 0 -ℤ z) f
        ∙ same_value (minus (nat 0) (times (var n) (nat x))) (times (minus (nat 0) (var n)) (nat x)) (omega arith)

pub IsQuotient-whole : (n : ℤ) → IsQuotient (whole n) n 1
unfolding whole
IsQuotient-whole n = IsQuotient-parts (whole n)

pub data Expression : Type 0 where
  this : ℚ → Expression
  int : ℤ → Expression
  add : Expression → Expression → Expression
  sub : Expression → Expression → Expression
  mul : Expression → Expression → Expression
  neg : Expression → Expression

abbrev pub meaning : Expression → ℚ
meaning (this q) = q
meaning (int n) = whole n
meaning (add s t) = meaning s +ℚ meaning t
meaning (sub s t) = meaning s -ℚ meaning t
meaning (mul s t) = meaning s *ℚ meaning t
meaning (neg s) = neg_ℚ (meaning s)

abbrev pub bottom : Expression → ℕ
bottom (this q) = q.den
bottom (int n) = 1
bottom (add s t) = bottom s * bottom t
bottom (sub s t) = bottom s * bottom t
bottom (mul s t) = bottom s * bottom t
bottom (neg s) = bottom s

abbrev pub top : Expression → Term
top (this q) = var q.num
top (int n) = var n
top (add s t) = plus (times (top s) (nat (bottom t))) (times (top t) (nat (bottom s)))
top (sub s t) = plus (times (top s) (nat (bottom t))) (times (minus (nat 0) (top t)) (nat (bottom s)))
top (mul s t) = times (top s) (top t)
top (neg s) = minus (nat 0) (top s)

-- an expression is the quotient that it multiplies out to
pub IsQuotient-meaning : (s : Expression) → IsQuotient (meaning s) (value (top s)) (bottom s)
unfolding ◌-ℚ◌
IsQuotient-meaning (this q) = IsQuotient-parts q
IsQuotient-meaning (int n) = IsQuotient-whole n
IsQuotient-meaning (add s t) =
    IsQuotient-plus (meaning s) (meaning t) (value (top s)) (value (top t)) (bottom s) (bottom t) (IsQuotient-meaning s) (IsQuotient-meaning t)
IsQuotient-meaning (sub s t) =
    IsQuotient-plus (meaning s) (neg_ℚ (meaning t)) (value (top s)) (pos 0 -ℤ value (top t)) (bottom s) (bottom t) (IsQuotient-meaning s)
    (IsQuotient-neg (meaning t) (value (top t)) (bottom t) (IsQuotient-meaning t))
IsQuotient-meaning (mul s t) =
    IsQuotient-times (meaning s) (meaning t) (value (top s)) (value (top t)) (bottom s) (bottom t) (IsQuotient-meaning s) (IsQuotient-meaning t)
IsQuotient-meaning (neg s) = IsQuotient-neg (meaning s) (value (top s)) (bottom s) (IsQuotient-meaning s)

-- the numerator of s over the denominator of t
abbrev pub side : Expression → Expression → Term
side s t = times (top s) (nat (bottom t))

pub same_meaning : (s t : Expression)
    → plus_of (side s t) + minus_of (side t s) ≡ plus_of (side t s) + minus_of (side s t) → meaning s ≡ meaning t
same_meaning s t e =
    same_quotients (meaning s) (meaning t) (value (top s)) (value (top t)) (bottom s) (bottom t) (IsQuotient-meaning s) (IsQuotient-meaning t)
    (same_value (side s t) (side t s) e)

pub at_most_ℚ : (s t : Expression)
    → plus_of (side s t) + minus_of (side t s) ≤ plus_of (side t s) + minus_of (side s t) → meaning s ≤ℚ meaning t
at_most_ℚ s t h =
    ordered_quotients (meaning s) (meaning t) (value (top s)) (value (top t)) (bottom s) (bottom t) (IsQuotient-meaning s) (IsQuotient-meaning t)
    (at_most (side s t) (side t s) h)

pub at_most_of_ℚ : (s t : Expression)
    → meaning s ≤ℚ meaning t → plus_of (side s t) + minus_of (side t s) ≤ plus_of (side t s) + minus_of (side s t)
at_most_of_ℚ s t h =
    at_most_of (side s t) (side t s)
    (order_of_quotients (meaning s) (meaning t) (value (top s)) (value (top t)) (bottom s) (bottom t) (IsQuotient-meaning s) (IsQuotient-meaning t) h)

pub below_ℚ : (s t : Expression)
    → plus_of (side s t) + minus_of (side t s) < plus_of (side t s) + minus_of (side s t) → meaning s <ℚ meaning t
below_ℚ s t h =
    below_quotients (meaning s) (meaning t) (value (top s)) (value (top t)) (bottom s) (bottom t) (IsQuotient-meaning s) (IsQuotient-meaning t)
    (below (side s t) (side t s) h)

pub below_of_ℚ : (s t : Expression)
    → meaning s <ℚ meaning t → plus_of (side s t) + minus_of (side t s) < plus_of (side t s) + minus_of (side s t)
below_of_ℚ s t h =
    below_of (side s t) (side t s)
    (strictness_of_quotients (meaning s) (meaning t) (value (top s)) (value (top t)) (bottom s) (bottom t) (IsQuotient-meaning s) (IsQuotient-meaning t) h)
