-- The range of a fraction.
use Rattle.std.specs.Prelude.{◌≤◌, ◌^◌, unsigned_abs}
use Rattle.fraction_laws.specs.Rational.{ℚ}

-- the numerator and the denominator are at most 2^62 in absolute value
pub record IsInRange (q : ℚ) : Type 0 where
  pub num : unsigned_abs q.num ≤ 2 ^ 62
  pub den : q.den ≤ 2 ^ 62
