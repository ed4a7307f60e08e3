-- A numerator and a denominator, divided by their greatest common divisor, are in lowest terms.
use Rattle.std.proofs.Common.{◌≡◌, ℕ, zero, suc, ◌*◌, ◌/◌, ◌≤◌, refl, sym, subst, arith, ℤ, pos, negsuc}
use Rattle.std.specs.Prelude.{unsigned_abs, neg_ℤ}
use Rattle.std.specs.Int.{◌∣◌, IsGcd}
use Rattle.std.specs.Int.RustNames.{int_div}
use Rattle.std.proofs.Math.Nat.{div-mul_cancel, pos_of_dvd_of_pos, dvd_of_mul-dvd-mul_right, mul-dvd-mul_right, one-mul, eq-one_of_dvd-one}
use Rattle.fraction_laws.specs.Divisor.{greatest_divisor, AreCoprime, IsGcd-greatest}

-- a divisor of a positive number is positive
divisor-positive : (a d : ℕ) → 1 ≤ d → 1 ≤ greatest_divisor a d
divisor-positive a d some = pos_of_dvd_of_pos (IsGcd-greatest a d).1 some

-- an exact quotient has the dividend's absolute value after multiplying back
pub abs-quotient : (n : ℤ) (g : ℕ) → unsigned_abs (int_div n (pos g)) ≡ unsigned_abs n / g
abs-quotient (pos n) g = refl
abs-quotient (negsuc n) g = abs-neg (suc n / g)
  where
    abs-neg : (k : ℕ) → unsigned_abs (neg_ℤ (pos k)) ≡ k
    abs-neg zero = refl
    abs-neg (suc k) = refl

-- what is divided by the greatest divisor has none left
pub quotients-coprime : (a b g x y : ℕ) → 1 ≤ g → IsGcd a b g → x * g ≡ a → y * g ≡ b → AreCoprime x y
quotients-coprime a b g x y some h e f = record {
  only_one = λ k p q.
      let up : k * g ∣ g = h.2 (k * g) (subst (λ n. k * g ∣ n) e (mul-dvd-mul_right k p g)) (subst (λ n. k * g ∣ n) f (mul-dvd-mul_right k q g)) in
      eq-one_of_dvd-one (dvd_of_mul-dvd-mul_right k some (subst (λ n. k * g ∣ n) (sym (one-mul g)) up));
}

pub reduced-positive : (n : ℤ) (d : ℕ) → 1 ≤ d → 1 ≤ d / greatest_divisor (unsigned_abs n) d
reduced-positive n d some =
    let e = div-mul_cancel (greatest_divisor (unsigned_abs n) d) (IsGcd-greatest (unsigned_abs n) d).1 in
    quotient-positive (d / greatest_divisor (unsigned_abs n) d) (greatest_divisor (unsigned_abs n) d) d some e
  where
    quotient-positive : (q g d : ℕ) → 1 ≤ d → q * g ≡ d → 1 ≤ q
    quotient-positive zero g d some e = absurd (omega arith)
    quotient-positive (suc q) g d some e = omega arith

pub reduced-coprime : (n : ℤ) (d : ℕ) → 1 ≤ d
    → AreCoprime (unsigned_abs (int_div n (pos (greatest_divisor (unsigned_abs n) d)))) (d / greatest_divisor (unsigned_abs n) d)
reduced-coprime n d some =
    let g = greatest_divisor (unsigned_abs n) d in
    let h : IsGcd (unsigned_abs n) d g = IsGcd-greatest (unsigned_abs n) d in
    subst (λ m. AreCoprime m (d / g)) (sym (abs-quotient n g))
    (quotients-coprime (unsigned_abs n) d g (unsigned_abs n / g) (d / g) (divisor-positive (unsigned_abs n) d some) h
    (div-mul_cancel g h.0) (div-mul_cancel g h.1))
