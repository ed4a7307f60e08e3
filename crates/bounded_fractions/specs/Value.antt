-- What a fraction stands for.
use Rattle.std.specs.Prelude.{ℤ, pos, ◌≤◌, ◌≤ℤ◌, unsigned_abs}
use Rattle.std.proofs.Common.{negsuc, arith}
use Rattle.std.proofs.lemmas.Int.{ints}
use Rattle.fraction_laws.specs.Rational.{ℚ}
use Rattle.bounded_fractions.specs.declared.fraction.Fraction.{Fraction}

-- a positive number has a positive absolute value
pub abs-positive : (z : ℤ) → pos 1 ≤ℤ z → 1 ≤ unsigned_abs z
abs-positive (pos n) h = omega (arith, ints)
abs-positive (negsuc n) h = absurd (omega (arith, ints))

-- the rational number
unfoldable pub value_of : Fraction → ℚ
value_of f = record {
  num = f.num;
  den = unsigned_abs f.den;
  positive = abs-positive f.den f.positive;
  lowest = f.lowest;
}
