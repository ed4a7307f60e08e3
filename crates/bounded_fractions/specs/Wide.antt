-- What a fraction that may be out of range stands for.
use Rattle.fraction_laws.specs.Rational.{ℚ}
use Rattle.bounded_fractions.specs.declared.wide.WideFraction.{WideFraction}

-- the rational number
unfoldable pub wide_value : WideFraction → ℚ
wide_value w = record { num = w.num; den = w.den; positive = w.positive; lowest = w.lowest }
