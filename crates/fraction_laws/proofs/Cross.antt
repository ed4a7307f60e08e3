-- Rational numbers are equal where their cross products are, and what stands for a quotient.
use Rattle.std.proofs.Common.{◌≡◌, ℕ, ◌+◌, ◌*◌, ◌/◌, ◌≤◌, refl, sym, subst, ap, ◌∙◌, arith, ℤ, pos, ◌*ℤ◌, zero, suc, negsuc}
use Rattle.std.specs.Prelude.{unsigned_abs, neg_ℤ}
use Rattle.std.specs.Int.{◌∣◌, IsGcd}
use Rattle.std.specs.Int.RustNames.{int_div}
use Rattle.std.proofs.lemmas.Int.{unsigned_abs-mul}
use Rattle.std.proofs.lemmas.Nat.Gcd.{dvd_antisymm}
use Rattle.std.proofs.Math.Nat.{div-mul_cancel, dvd-mul_left, le_of_mul-le-mul_right, le_antisymm, le_of_eq}
use mathlib.Core.HLevel.{is_prop→PathP}
use native.Mathlib.Bridge.{le_prop}
use native.Mathlib.Nat.{ℕ_set}
use Rattle.number_laws.proofs.Ring.{var, nat, times, plus_of, minus_of, same_value, same_value_of}
use Rattle.fraction_laws.specs.Divisor.{greatest_divisor, AreCoprime, IsGcd-greatest}
use Rattle.fraction_laws.specs.Rational.{ℚ, ratio}
use Rattle.fraction_laws.proofs.Divisors.{divides_other}

-- a number that its divisor divides is the quotient times it
pub quotient-times : (n : ℤ) (g : ℕ) → g ∣ unsigned_abs n → int_div n (pos g) *ℤ pos g ≡ n
quotient-times (pos n) g h = ap pos (div-mul_cancel g h)
quotient-times (negsuc n) g h = neg-times (suc n / g) g n (div-mul_cancel g h)
  where
    neg-times : (q g n : ℕ) → q * g ≡ suc n → neg_ℤ (pos q) *ℤ pos g ≡ negsuc n
    neg-times zero g n e = absurd (omega arith)
    neg-times (suc q) g n e = ap (λ m. neg_ℤ (pos m)) e

-- a rational number is its numerator and its denominator
pub same_from_parts : (q r : ℚ) → q.num ≡ r.num → q.den ≡ r.den → q ≡ r
same_from_parts q r e f = λ i. record {
  num = e i;
  den = f i;
  positive = is_prop→PathP (λ j. 1 ≤ f j) (λ j. le_prop) q.positive r.positive i;
  lowest = is_prop→PathP (λ j. AreCoprime (unsigned_abs (e j)) (f j)) (λ j. hlevel ℕ_set) q.lowest r.lowest i;
}

-- a positive factor is cancelled in ℕ
cancelled : (x y d : ℕ) → 1 ≤ d → x * d ≡ y * d → x ≡ y
cancelled x y d some e = le_antisymm (le_of_mul-le-mul_right (le_of_eq e) some) (le_of_mul-le-mul_right (le_of_eq (sym e)) some)

-- a positive factor is cancelled in ℤ
pub cancelled_ℤ : (x y : ℤ) (d : ℕ) → 1 ≤ d → x *ℤ pos d ≡ y *ℤ pos d → x ≡ y
cancelled_ℤ x y d some e =
    let f = same_value_of (times (var x) (nat d)) (times (var y) (nat d)) e in
    same_value (var x) (var y) (cancelled (plus_of (var x) + minus_of (var y)) (plus_of (var y) + minus_of (var x)) d some (omega (arith, f)))

AreCoprime-swap : {a b : ℕ} → AreCoprime a b → AreCoprime b a
AreCoprime-swap h = record { only_one = λ k p q. h.only_one k q p }

-- rational numbers with equal cross products are one
pub same_from_cross : (q r : ℚ) → q.num *ℤ pos r.den ≡ r.num *ℤ pos q.den → q ≡ r
same_from_cross q r e =
    let abs : unsigned_abs q.num * r.den ≡ unsigned_abs r.num * q.den =
    sym (unsigned_abs-mul q.num (pos r.den)) ∙ ap unsigned_abs e ∙ unsigned_abs-mul r.num (pos q.den) in
    let there : q.den ∣ r.den =
    divides_other q.den (unsigned_abs q.num) r.den (AreCoprime-swap q.lowest)
    (subst (λ n. q.den ∣ n) (sym abs) (dvd-mul_left q.den (unsigned_abs r.num))) in
    let back : r.den ∣ q.den =
    divides_other r.den (unsigned_abs r.num) q.den (AreCoprime-swap r.lowest)
    (subst (λ n. r.den ∣ n) abs (dvd-mul_left r.den (unsigned_abs q.num))) in
    let den : q.den ≡ r.den = dvd_antisymm there back in
    same_from_parts q r (cancelled_ℤ q.num r.num r.den r.positive (e ∙ ap (λ d. r.num *ℤ pos d) den)) den

-- and a number has its own cross products
pub cross_from_same : (q r : ℚ) → q ≡ r → q.num *ℤ pos r.den ≡ r.num *ℤ pos q.den
cross_from_same q r e = ap (λ t. t.num *ℤ pos r.den) e ∙ ap (λ t. r.num *ℤ pos t.den) (sym e)

-- q is the number n / d: their cross products are equal
pub record IsQuotient (q : ℚ) (n : ℤ) (d : ℕ) : Type 0 where
  pub some : 1 ≤ d
  pub cross : q.num *ℤ pos d ≡ n *ℤ pos q.den

-- a rational number is its numerator over its denominator
pub IsQuotient-parts : (q : ℚ) → IsQuotient q q.num q.den
IsQuotient-parts q = record { some = q.positive; cross = refl }

-- a reduced ratio is the number that it is made of
pub IsQuotient-ratio : (n : ℤ) (d : ℕ) (some : 1 ≤ d) → IsQuotient (ratio n d some) n d
unfolding ratio
IsQuotient-ratio n d some =
    let g = greatest_divisor (unsigned_abs n) d in
    let h : IsGcd (unsigned_abs n) d g = IsGcd-greatest (unsigned_abs n) d in
    record { some = some; cross = cross_by (int_div n (pos g)) n (d / g) g d (quotient-times n g h.0) (div-mul_cancel g h.1) }
  where
    cross_by : (m n : ℤ) (e g d : ℕ) → m *ℤ pos g ≡ n → e * g ≡ d → m *ℤ pos d ≡ n *ℤ pos e
    cross_by m n e g d p q =
        ap (λ k. m *ℤ pos k) (sym q)
        ∙ same_value (times (var m) (times (nat e) (nat g))) (times (times (var m) (nat g)) (nat e)) (omega arith)
        ∙ ap (λ z. z *ℤ pos e) p
