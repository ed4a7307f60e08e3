-- The rational numbers, each by its one numerator and denominator in lowest terms.
use Rattle.std.specs.Prelude.{ℕ, ◌*◌, ◌/◌, ◌≤◌, ℤ, pos, negsuc, ◌+ℤ◌, ◌-ℤ◌, ◌*ℤ◌, ◌≤ℤ◌, ◌<ℤ◌, unsigned_abs, List, [], ◌∷◌}
use Rattle.std.specs.Int.RustNames.{int_div}
use Rattle.std.proofs.Common.{zero, suc, lit≤, zero-lt-suc, mul-pos}
use Rattle.std.proofs.Math.Nat.{eq-one_of_dvd-one}
use Rattle.fraction_laws.specs.Divisor.{greatest_divisor, AreCoprime}
use Rattle.fraction_laws.specs.Reduced.{reduced-positive, reduced-coprime}

-- a numerator over a denominator of at least 1, with no common divisor but 1
pub record ℚ : Type 0 where
  pub num : ℤ
  pub den : ℕ
  pub positive : 1 ≤ den
  pub lowest : AreCoprime (unsigned_abs num) den

-- the number n / d: both are divided by their greatest common divisor
unfoldable pub ratio : (n : ℤ) (d : ℕ) → 1 ≤ d → ℚ
ratio n d some =
    let g = greatest_divisor (unsigned_abs n) d in
    record {
      num = int_div n (pos g);
      den = d / g;
      positive = reduced-positive n d some;
      lowest = reduced-coprime n d some;
    }

-- a whole number
unfoldable pub whole : ℤ → ℚ
whole n = record {
  num = n;
  den = 1;
  positive = lit≤ tt;
  lowest = record { only_one = λ k _ divides_one. eq-one_of_dvd-one divides_one };
}

infixl 6 ◌+ℚ◌ ◌-ℚ◌
infixl 7 ◌*ℚ◌ ◌/ℚ◌
infix 4 ◌≤ℚ◌ ◌<ℚ◌
-- the sum
unfoldable pub ◌+ℚ◌ : ℚ → ℚ → ℚ
a +ℚ b = ratio (a.num *ℤ pos b.den +ℤ b.num *ℤ pos a.den) (a.den * b.den) (mul-pos a.positive b.positive)

-- the number with the other sign
unfoldable pub neg_ℚ : ℚ → ℚ
neg_ℚ a = ratio (pos 0 -ℤ a.num) a.den a.positive

-- the difference
unfoldable pub ◌-ℚ◌ : ℚ → ℚ → ℚ
a -ℚ b = a +ℚ neg_ℚ b

-- the product
unfoldable pub ◌*ℚ◌ : ℚ → ℚ → ℚ
a *ℚ b = ratio (a.num *ℤ b.num) (a.den * b.den) (mul-pos a.positive b.positive)

-- d over n, with the sign on top; 0 for n = 0
unfoldable pub turned : ℤ → ℕ → ℚ
turned (pos zero) d = whole (pos 0)
turned (pos (suc k)) d = ratio (pos d) (suc k) (zero-lt-suc k)
turned (negsuc k) d = ratio (pos 0 -ℤ pos d) (suc k) (zero-lt-suc k)

-- 1 over a number, and 0 for 0
unfoldable pub inverse : ℚ → ℚ
inverse a = turned a.num a.den

-- the quotient, and 0 where the divisor is 0
unfoldable pub ◌/ℚ◌ : ℚ → ℚ → ℚ
a /ℚ b = a *ℚ inverse b

-- a is at most b: by cross products
pub record ◌≤ℚ◌ (a b : ℚ) : Type 0 where
  pub cross : (a.num *ℤ pos b.den) ≤ℤ (b.num *ℤ pos a.den)

-- a is below b: by cross products
pub record ◌<ℚ◌ (a b : ℚ) : Type 0 where
  pub cross : (a.num *ℤ pos b.den) <ℤ (b.num *ℤ pos a.den)

-- the sum of f over a list
unfoldable pub sum_ℚ : {X : Type 0} → (X → ℚ) → List X → ℚ
sum_ℚ f [] = whole (pos 0)
sum_ℚ f (x ∷ xs) = f x +ℚ sum_ℚ f xs
