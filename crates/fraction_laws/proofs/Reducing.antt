-- Quotients, products and sums that are reduced before they grow: by common divisors of their parts.
--     IsReduced n d m e      m / e is n / d, in lowest terms
use Rattle.std.proofs.Common.{◌≡◌, ℕ, zero, suc, ◌*◌, ◌/◌, ◌≤◌, sym, ap, ◌∙◌, subst, arith, mul-pos, ℤ, pos, ◌+ℤ◌, ◌-ℤ◌, ◌*ℤ◌}
use Rattle.std.specs.Prelude.{unsigned_abs}
use Rattle.std.specs.Int.{◌∣◌, IsGcd}
use Rattle.std.specs.Int.RustNames.{int_div}
use Rattle.std.proofs.lemmas.Int.{unsigned_abs-mul}
use Rattle.std.proofs.lemmas.Nat.Gcd.{dvd_refl, dvd_trans}
use Rattle.std.proofs.Math.Nat.{mul_comm, mul_assoc, mul-div_cancel, div-mul_cancel, dvd-mul_left, dvd-mul_right, pos_of_dvd_of_pos}
use Rattle.number_laws.proofs.Ring.{var, nat, plus, minus, times, same_value, same_value_of}
use Rattle.fraction_laws.specs.Divisor.{AreCoprime}
use Rattle.fraction_laws.specs.Reduced.{abs-quotient, quotients-coprime}
use Rattle.fraction_laws.specs.Rational.{ℚ, ◌+ℚ◌, ◌*ℚ◌}
use Rattle.fraction_laws.proofs.Divisors.{divides_other}
use Rattle.fraction_laws.proofs.Cross.{IsQuotient-parts, quotient-times}
use Rattle.fraction_laws.proofs.Expression.{same_quotients, IsQuotient-plus, IsQuotient-times}

-- m / e is n / d, in lowest terms
pub record IsReduced (n : ℤ) (d : ℕ) (m : ℤ) (e : ℕ) : Type 0 where
  pub positive : 1 ≤ e
  pub lowest : AreCoprime (unsigned_abs m) e
  pub cross : m *ℤ pos d ≡ n *ℤ pos e

-- what divides a number has a quotient that does too
divides_by : (x g a : ℕ) → x * g ≡ a → x ∣ a
divides_by x g a e = subst (λ n. x ∣ n) e (dvd-mul_right x g)

AreCoprime-swap : (a b : ℕ) → AreCoprime a b → AreCoprime b a
AreCoprime-swap a b h = record { only_one = λ k p q. h.only_one k q p }

-- divisors of both have no more in common
AreCoprime-parts : (a b x y : ℕ) → x ∣ a → y ∣ b → AreCoprime a b → AreCoprime x y
AreCoprime-parts a b x y p q h = record { only_one = λ k s t. h.only_one k (dvd_trans k s p) (dvd_trans k t q) }

-- a product has no divisor in common where neither factor has
AreCoprime-times : (a b c : ℕ) → AreCoprime a c → AreCoprime b c → AreCoprime (a * b) c
AreCoprime-times a b c h s = record {
  only_one = λ k p q.
      s.only_one k
      (divides_other k a b (record { only_one = λ j t u. h.only_one j u (dvd_trans j t q) }) p)
      q;
}

-- whatever divides a sum and one part divides the other
divides_part : (x y : ℤ) (k : ℕ) → k ∣ unsigned_abs (x +ℤ y) → k ∣ unsigned_abs y → k ∣ unsigned_abs x
divides_part x y k p q =
    let m = int_div (x +ℤ y) (pos k) in
    let n = int_div y (pos k) in
    let e : unsigned_abs (m -ℤ n) * k ≡ unsigned_abs x =
    sym (unsigned_abs-mul (m -ℤ n) (pos k)) ∙ ap unsigned_abs (difference m n x y k (quotient-times (x +ℤ y) k p) (quotient-times y k q)) in
    subst (λ a. k ∣ a) e (dvd-mul_left k (unsigned_abs (m -ℤ n)))
  where
    difference : (m n x y : ℤ) (k : ℕ) → m *ℤ pos k ≡ x +ℤ y → n *ℤ pos k ≡ y → (m -ℤ n) *ℤ pos k ≡ x
    difference m n x y k e f =
        let e' = same_value_of (times (var m) (nat k)) (plus (var x) (var y)) e in
        let f' = same_value_of (times (var n) (nat k)) (var y) f in
        same_value (times (minus (var m) (var n)) (nat k)) (var x) (omega (arith, e', f'))

-- a quotient divided by a greatest common divisor
pub IsReduced-quotient : (n : ℤ) (d g : ℕ) → 1 ≤ d → IsGcd (unsigned_abs n) d g → IsReduced n d (int_div n (pos g)) (d / g)
IsReduced-quotient n d g some h =
    let e = div-mul_cancel g h.0 in
    let f = div-mul_cancel g h.1 in
    record {
      positive = quotient-positive (d / g) g d some f;
      lowest =
          subst (λ m. AreCoprime m (d / g)) (sym (abs-quotient n g))
          (quotients-coprime (unsigned_abs n) d g (unsigned_abs n / g) (d / g) (pos_of_dvd_of_pos h.1 some) h e f);
      cross = cross_by (int_div n (pos g)) n (d / g) g d (quotient-times n g h.0) f;
    }
  where
    quotient-positive : (q g d : ℕ) → 1 ≤ d → q * g ≡ d → 1 ≤ q
    quotient-positive zero g d some e = absurd (omega arith)
    quotient-positive (suc q) g d some e = omega arith

    cross_by : (m n : ℤ) (e g d : ℕ) → m *ℤ pos g ≡ n → e * g ≡ d → m *ℤ pos d ≡ n *ℤ pos e
    cross_by m n e g d p q =
        ap (λ k. m *ℤ pos k) (sym q)
        ∙ same_value (times (var m) (times (nat e) (nat g))) (times (times (var m) (nat g)) (nat e)) (omega arith)
        ∙ ap (λ z. z *ℤ pos e) p

-- a product of numbers in lowest terms, each numerator and the other denominator divided by what they have in common
module _ (a b : ℚ) (g h : ℕ) (p : IsGcd (unsigned_abs a.num) b.den g) (q : IsGcd (unsigned_abs b.num) a.den h) where
  pub IsReduced-product : IsReduced (a.num *ℤ b.num) (a.den * b.den) (int_div a.num (pos g) *ℤ int_div b.num (pos h)) ((a.den / h) * (b.den / g))
  IsReduced-product =
      let x = IsReduced-quotient a.num b.den g b.positive p in
      let y = IsReduced-quotient b.num a.den h a.positive q in
      let m = int_div a.num (pos g) in
      let n = int_div b.num (pos h) in
      let left : unsigned_abs m ∣ unsigned_abs a.num =
      divides_by (unsigned_abs m) g (unsigned_abs a.num) (ap (λ k. k * g) (abs-quotient a.num g) ∙ div-mul_cancel g p.0) in
      let right : unsigned_abs n ∣ unsigned_abs b.num =
      divides_by (unsigned_abs n) h (unsigned_abs b.num) (ap (λ k. k * h) (abs-quotient b.num h) ∙ div-mul_cancel h q.0) in
      let down : a.den / h ∣ a.den = divides_by (a.den / h) h a.den (div-mul_cancel h q.1) in
      let other : b.den / g ∣ b.den = divides_by (b.den / g) g b.den (div-mul_cancel g p.1) in
      record {
        positive = mul-pos y.positive x.positive;
        lowest =
            subst (λ k. AreCoprime k ((a.den / h) * (b.den / g))) (sym (unsigned_abs-mul m n))
            (AreCoprime-four (unsigned_abs m) (unsigned_abs n) (a.den / h) (b.den / g)
            (AreCoprime-parts (unsigned_abs a.num) a.den (unsigned_abs m) (a.den / h) left down a.lowest)
            x.lowest
            y.lowest
            (AreCoprime-parts (unsigned_abs b.num) b.den (unsigned_abs n) (b.den / g) right other b.lowest));
        cross =
            product_cross m n a.num b.num (a.den / h) (b.den / g) g h a.den b.den (quotient-times a.num g p.0) (quotient-times b.num h q.0)
            (div-mul_cancel h q.1) (div-mul_cancel g p.1);
      }
    where
      AreCoprime-four : (m n u v : ℕ) → AreCoprime m u → AreCoprime m v → AreCoprime n u → AreCoprime n v → AreCoprime (m * n) (u * v)
      AreCoprime-four m n u v mu mv nu nv =
          AreCoprime-swap (u * v) (m * n)
          (AreCoprime-times u v (m * n)
          (AreCoprime-swap (m * n) u (AreCoprime-times m n u mu nu))
          (AreCoprime-swap (m * n) v (AreCoprime-times m n v mv nv)))

      product_cross : (m n a b : ℤ) (u v g h d e : ℕ) → m *ℤ pos g ≡ a → n *ℤ pos h ≡ b → u * h ≡ d → v * g ≡ e
          → (m *ℤ n) *ℤ pos (d * e) ≡ (a *ℤ b) *ℤ pos (u * v)
      product_cross m n a b u v g h d e am bn du ev =
          ap (λ k. (m *ℤ n) *ℤ pos (k * e)) (sym du)
          ∙ ap (λ k. (m *ℤ n) *ℤ pos (u * h * k)) (sym ev)
          ∙ same_value (times (times (var m) (var n)) (nat (u * h * (v * g)))) (times (times (times (var m) (nat g)) (times (var n) (nat h))) (nat (u * v)))
          (omega arith)
          ∙ ap (λ z. (z *ℤ (n *ℤ pos h)) *ℤ pos (u * v)) am
          ∙ ap (λ z. (a *ℤ z) *ℤ pos (u * v)) bn

  -- is the product
  pub same_product : (w : ℚ) → w.num ≡ int_div a.num (pos g) *ℤ int_div b.num (pos h) → w.den ≡ (a.den / h) * (b.den / g) → w ≡ a *ℚ b
  same_product w e f =
      same_quotients w (a *ℚ b) w.num (a.num *ℤ b.num) w.den (a.den * b.den) (IsQuotient-parts w)
      (IsQuotient-times a b a.num b.num a.den b.den (IsQuotient-parts a) (IsQuotient-parts b))
      (ap (λ z. z *ℤ pos (a.den * b.den)) e ∙ IsReduced-product.cross ∙ ap (λ k. (a.num *ℤ b.num) *ℤ pos k) (sym f))

-- a sum over two denominators with nothing in common has nothing in common with the second
AreCoprime-sum : (a b : ℤ) (l r den : ℕ) → AreCoprime (unsigned_abs a) den → l ∣ den → AreCoprime l r → AreCoprime (unsigned_abs (a *ℤ pos r +ℤ b *ℤ pos l)) l
AreCoprime-sum a b l r den lowest part apart = record {
  only_one = λ k p q.
      let second : k ∣ unsigned_abs (b *ℤ pos l) =
      subst (λ n. k ∣ n) (sym (unsigned_abs-mul b (pos l))) (dvd_trans k q (dvd-mul_left l (unsigned_abs b))) in
      let first : k ∣ r * unsigned_abs a =
      subst (λ n. k ∣ n) (unsigned_abs-mul a (pos r) ∙ mul_comm (unsigned_abs a) r) (divides_part (a *ℤ pos r) (b *ℤ pos l) k p second) in
      let alone : AreCoprime k r = record { only_one = λ j t u. apart.only_one j (dvd_trans j t q) u } in
      lowest.only_one k (divides_other k r (unsigned_abs a) alone first) (dvd_trans k q part);
}

-- a sum of numbers in lowest terms, over the least common denominator, divided by what its numerator has in common with
-- what both denominators have in common
module _ (a b : ℚ) (g d : ℕ) (p : IsGcd a.den b.den g) (q : IsGcd (unsigned_abs (a.num *ℤ pos (b.den / g) +ℤ b.num *ℤ pos (a.den / g))) g d) where
  pub IsReduced-sum : IsReduced (a.num *ℤ pos b.den +ℤ b.num *ℤ pos a.den) (a.den * b.den)
      (int_div (a.num *ℤ pos (b.den / g) +ℤ b.num *ℤ pos (a.den / g)) (pos d)) ((a.den / g) * (b.den / d))
  IsReduced-sum =
      let some : 1 ≤ g = pos_of_dvd_of_pos p.0 a.positive in
      let l = a.den / g in
      let r = b.den / g in
      let s = g / d in
      let t = a.num *ℤ pos r +ℤ b.num *ℤ pos l in
      let x = IsReduced-quotient t g d some q in
      let lg : l * g ≡ a.den = div-mul_cancel g p.0 in
      let rg : r * g ≡ b.den = div-mul_cancel g p.1 in
      let sd : s * d ≡ g = div-mul_cancel d q.1 in
      let y : b.den / d ≡ r * s = part_of b.den r g s d (pos_of_dvd_of_pos q.1 some) rg sd in
      let apart : AreCoprime l r = quotients-coprime a.den b.den g l r some p lg rg in
      let m = unsigned_abs (int_div t (pos d)) in
      let part : m ∣ unsigned_abs t = divides_by m d (unsigned_abs t) (ap (λ k. k * d) (abs-quotient t d) ∙ div-mul_cancel d q.0) in
      let with_l : AreCoprime (unsigned_abs t) l = AreCoprime-sum a.num b.num l r a.den a.lowest (divides_by l g a.den lg) apart in
      let with_r : AreCoprime (unsigned_abs t) r =
      subst (λ z. AreCoprime (unsigned_abs z) r) (turned a.num b.num r l)
      (AreCoprime-sum b.num a.num r l b.den b.lowest (divides_by r g b.den rg) (AreCoprime-swap l r apart)) in
      let whole : AreCoprime m (l * (r * s)) =
      AreCoprime-swap (l * (r * s)) m
      (AreCoprime-times l (r * s) m
      (AreCoprime-swap m l (AreCoprime-parts (unsigned_abs t) l m l part (dvd_refl l) with_l))
      (AreCoprime-times r s m
      (AreCoprime-swap m r (AreCoprime-parts (unsigned_abs t) r m r part (dvd_refl r) with_r))
      (AreCoprime-swap m s x.lowest))) in
      record {
        positive = subst (λ k. 1 ≤ l * k) (sym y) (mul-pos (some_part l g a.den a.positive lg) (mul-pos (some_part r g b.den b.positive rg) x.positive));
        lowest = subst (λ k. AreCoprime m (l * k)) (sym y) whole;
        cross =
            sum_cross (int_div t (pos d)) a.num b.num l r s g d a.den b.den (quotient-times t d q.0) lg rg sd
            ∙ ap (λ k. (a.num *ℤ pos b.den +ℤ b.num *ℤ pos a.den) *ℤ pos (l * k)) (sym y);
      }
    where
      some_part : (q g d : ℕ) → 1 ≤ d → q * g ≡ d → 1 ≤ q
      some_part zero g d some e = absurd (omega arith)
      some_part (suc q) g d some e = omega arith

      part_of : (e r g s d : ℕ) → 1 ≤ d → r * g ≡ e → s * d ≡ g → e / d ≡ r * s
      part_of e r g s d some rg sd =
          let f : r * s * d ≡ e = mul_assoc r s d ∙ ap (λ k. r * k) sd ∙ rg in
          ap (λ k. k / d) (sym f) ∙ mul-div_cancel (r * s) some

      turned : (a b : ℤ) (r l : ℕ) → b *ℤ pos l +ℤ a *ℤ pos r ≡ a *ℤ pos r +ℤ b *ℤ pos l
      turned a b r l =
          same_value (plus (times (var b) (nat l)) (times (var a) (nat r))) (plus (times (var a) (nat r)) (times (var b) (nat l))) (omega arith)

      sum_cross : (m a b : ℤ) (l r s g d x y : ℕ) → m *ℤ pos d ≡ a *ℤ pos r +ℤ b *ℤ pos l → l * g ≡ x → r * g ≡ y → s * d ≡ g
          → m *ℤ pos (x * y) ≡ (a *ℤ pos y +ℤ b *ℤ pos x) *ℤ pos (l * (r * s))
      sum_cross m a b l r s g d x y md lg rg sd =
          ap (λ k. m *ℤ pos (k * y)) (sym lg)
          ∙ ap (λ k. m *ℤ pos (l * k * y)) (sym sd)
          ∙ same_value (times (var m) (nat (l * (s * d) * y))) (times (times (var m) (nat d)) (nat (l * s * y))) (omega arith)
          ∙ ap (λ z. z *ℤ pos (l * s * y)) md
          ∙ ap (λ k. (a *ℤ pos r +ℤ b *ℤ pos l) *ℤ pos (l * s * k)) (sym rg)
          ∙ same_value
          (times (plus (times (var a) (nat r)) (times (var b) (nat l))) (nat (l * s * (r * g))))
          (times (plus (times (var a) (nat (r * g))) (times (var b) (nat (l * g)))) (nat (l * (r * s))))
          (omega arith)
          ∙ ap (λ k. (a *ℤ pos k +ℤ b *ℤ pos (l * g)) *ℤ pos (l * (r * s))) rg
          ∙ ap (λ k. (a *ℤ pos y +ℤ b *ℤ pos k) *ℤ pos (l * (r * s))) lg

  -- is the sum
  pub same_sum : (w : ℚ) → w.num ≡ int_div (a.num *ℤ pos (b.den / g) +ℤ b.num *ℤ pos (a.den / g)) (pos d) → w.den ≡ (a.den / g) * (b.den / d) → w ≡ a +ℚ b
  same_sum w e f =
      same_quotients w (a +ℚ b) w.num (a.num *ℤ pos b.den +ℤ b.num *ℤ pos a.den) w.den (a.den * b.den) (IsQuotient-parts w)
      (IsQuotient-plus a b a.num b.num a.den b.den (IsQuotient-parts a) (IsQuotient-parts b))
      (ap (λ z. z *ℤ pos (a.den * b.den)) e ∙ IsReduced-sum.cross ∙ ap (λ k. (a.num *ℤ pos b.den +ℤ b.num *ℤ pos a.den) *ℤ pos k) (sym f))

-- a sum over one denominator, divided by what it has in common with its numerator
pub same_sum_over : (a b : ℚ) (w : ℚ) (m : ℤ) (d : ℕ) → a.den ≡ b.den → IsReduced (a.num +ℤ b.num) a.den m d → w.num ≡ m → w.den ≡ d → w ≡ a +ℚ b
same_sum_over a b w m d same x e f =
    same_quotients w (a +ℚ b) w.num (a.num *ℤ pos b.den +ℤ b.num *ℤ pos a.den) w.den (a.den * b.den) (IsQuotient-parts w)
    (IsQuotient-plus a b a.num b.num a.den b.den (IsQuotient-parts a) (IsQuotient-parts b))
    (ap (λ z. z *ℤ pos (a.den * b.den)) e ∙ over m a.num b.num a.den b.den d same x.cross ∙ ap (λ k. (a.num *ℤ pos b.den +ℤ b.num *ℤ pos a.den) *ℤ pos k) (sym f))
  where
    over : (m a b : ℤ) (x y d : ℕ) → x ≡ y → m *ℤ pos x ≡ (a +ℤ b) *ℤ pos d → m *ℤ pos (x * y) ≡ (a *ℤ pos y +ℤ b *ℤ pos x) *ℤ pos d
    over m a b x y d same e =
        same_value (times (var m) (nat (x * y))) (times (times (var m) (nat x)) (nat y)) (omega arith)
        ∙ ap (λ z. z *ℤ pos y) e
        ∙ same_value
        (times (times (plus (var a) (var b)) (nat d)) (nat y))
        (times (plus (times (var a) (nat y)) (times (var b) (nat y))) (nat d))
        (omega arith)
        ∙ ap (λ k. (a *ℤ pos y +ℤ b *ℤ pos k) *ℤ pos d) (sym same)
