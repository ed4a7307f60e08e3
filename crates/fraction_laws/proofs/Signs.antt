-- Opposites, inverses and quotients of whole numbers, by their numerators and denominators and by the signs.
use Rattle.std.proofs.Common.{◌≡◌, ◌≢◌, ℕ, zero, suc, ◌*◌, ◌≤◌, refl, sym, ap, ◌∙◌, arith, ℤ, pos, negsuc, ◌-ℤ◌, ◌*ℤ◌, ◌≤ℤ◌, ◌<ℤ◌}
use Rattle.std.specs.Prelude.{unsigned_abs}
use Rattle.std.proofs.lemmas.Int.{ints}
use Rattle.number_laws.proofs.Ring.{var, nat, minus, times, same_value}
use Rattle.fraction_laws.specs.Rational.{ℚ, whole, ◌*ℚ◌, ◌/ℚ◌, neg_ℚ, inverse}
use Rattle.fraction_laws.proofs.Cross.{IsQuotient-parts}
use Rattle.fraction_laws.proofs.Expression.{same_quotients, IsQuotient-neg, IsQuotient-times, IsQuotient-whole}
use Rattle.fraction_laws.proofs.Field.{mul-inverse, mul_left_cancel}
use Rattle.fraction_laws.proofs.Quotient.{quotient_from_cross}
use Rattle.fraction_laws.proofs.Reducing.{IsReduced}

-- the sign plays no part in the absolute value
pub abs-neg : (z : ℤ) → unsigned_abs (pos 0 -ℤ z) ≡ unsigned_abs z
abs-neg (pos n) = omega (arith, ints)
abs-neg (negsuc n) = omega (arith, ints)

-- a number is its absolute value, with its sign
pub positive_is : (z : ℤ) → pos 0 ≤ℤ z → z ≡ pos (unsigned_abs z)
positive_is (pos n) h = refl
positive_is (negsuc n) h = absurd (omega (arith, ints))

pub negative_is : (z : ℤ) → z <ℤ pos 0 → z ≡ pos 0 -ℤ pos (unsigned_abs z)
negative_is (pos n) h = absurd (omega (arith, ints))
negative_is (negsuc n) h = omega (arith, ints)

pub some_abs : (z : ℤ) → z ≢ pos 0 → 1 ≤ unsigned_abs z
some_abs (pos zero) other = absurd (other refl)
some_abs (pos (suc n)) other = omega arith
some_abs (negsuc n) other = omega arith

-- the opposite
pub same_neg : (a w : ℚ) → w.num ≡ pos 0 -ℤ a.num → w.den ≡ a.den → w ≡ neg_ℚ a
same_neg a w e f =
    same_quotients w (neg_ℚ a) w.num (pos 0 -ℤ a.num) w.den a.den (IsQuotient-parts w) (IsQuotient-neg a a.num a.den (IsQuotient-parts a))
    (ap (λ z. z *ℤ pos a.den) e ∙ ap (λ k. (pos 0 -ℤ a.num) *ℤ pos k) (sym f))

-- the numerator of 0
pub num_of_zero : (a : ℚ) → a ≡ whole (pos 0) → a.num ≡ pos 0
unfolding whole
num_of_zero a z = ap (λ q. q.num) z

-- the inverse of a number that is not 0
same_inverse : (a w : ℚ) → a.num ≢ pos 0 → a.num *ℤ w.num ≡ pos (a.den * w.den) → w ≡ inverse a
same_inverse a w other e =
    let not_zero : a ≢ whole (pos 0) = λ z. other (num_of_zero a z) in
    mul_left_cancel a w (inverse a) not_zero
    (same_quotients (a *ℚ w) (whole (pos 1)) (a.num *ℤ w.num) (pos 1) (a.den * w.den) 1
    (IsQuotient-times a w a.num w.num a.den w.den (IsQuotient-parts a) (IsQuotient-parts w))
    (IsQuotient-whole (pos 1))
    (ap (λ z. z *ℤ pos 1) e ∙ same_value (times (nat (a.den * w.den)) (nat 1)) (times (nat 1) (nat (a.den * w.den))) (omega arith))
    ∙ sym (mul-inverse a not_zero))

pub same_inverse_positive : (a w : ℚ) → a.num ≢ pos 0 → pos 0 ≤ℤ a.num → w.num ≡ pos a.den → w.den ≡ unsigned_abs a.num → w ≡ inverse a
same_inverse_positive a w other sign e f =
    same_inverse a w other
    (ap (λ z. z *ℤ w.num) (positive_is a.num sign)
    ∙ ap (λ z. pos (unsigned_abs a.num) *ℤ z) e
    ∙ same_value (times (nat (unsigned_abs a.num)) (nat a.den)) (nat (a.den * unsigned_abs a.num)) (omega arith)
    ∙ ap (λ k. pos (a.den * k)) (sym f))

pub same_inverse_negative : (a w : ℚ) → a.num ≢ pos 0 → a.num <ℤ pos 0 → w.num ≡ pos 0 -ℤ pos a.den → w.den ≡ unsigned_abs a.num → w ≡ inverse a
same_inverse_negative a w other sign e f =
    same_inverse a w other
    (ap (λ z. z *ℤ w.num) (negative_is a.num sign)
    ∙ ap (λ z. (pos 0 -ℤ pos (unsigned_abs a.num)) *ℤ z) e
    ∙ same_value (times (minus (nat 0) (nat (unsigned_abs a.num))) (minus (nat 0) (nat a.den))) (nat (a.den * unsigned_abs a.num)) (omega arith)
    ∙ ap (λ k. pos (a.den * k)) (sym f))

-- a quotient of whole numbers by the divisor's absolute value, with the divisor's sign on top
module _ (n d m : ℤ) (e : ℕ) (other : d ≢ pos 0) (x : IsReduced n (unsigned_abs d) m e) (w : ℚ) (den : w.den ≡ e) where
  pub same_quotient_positive : pos 0 ≤ℤ d → w.num ≡ m → w ≡ whole n /ℚ whole d
  same_quotient_positive sign num =
      quotient_from_cross w n d other
      (ap (λ z. z *ℤ d) num ∙ ap (λ z. m *ℤ z) (positive_is d sign) ∙ x.cross ∙ ap (λ k. n *ℤ pos k) (sym den))

  pub same_quotient_negative : d <ℤ pos 0 → w.num ≡ pos 0 -ℤ m → w ≡ whole n /ℚ whole d
  same_quotient_negative sign num =
      quotient_from_cross w n d other
      (ap (λ z. z *ℤ d) num
      ∙ ap (λ z. (pos 0 -ℤ m) *ℤ z) (negative_is d sign)
      ∙ same_value (times (minus (nat 0) (var m)) (minus (nat 0) (nat (unsigned_abs d)))) (times (var m) (nat (unsigned_abs d))) (omega arith)
      ∙ x.cross
      ∙ ap (λ k. n *ℤ pos k) (sym den))
