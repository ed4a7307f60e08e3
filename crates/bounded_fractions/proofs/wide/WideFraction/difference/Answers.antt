use Rattle.std.proofs.Common.{◌∙◌, ap}
use Rattle.fraction_laws.specs.Rational.{◌+ℚ◌, ◌-ℚ◌}
use Rattle.bounded_fractions.specs.Value.{value_of}
use Rattle.bounded_fractions.proofs.wide.WideFraction.difference.Goals as goal

pub returns : goal.returns
unfolding ◌-ℚ◌
returns c = c.sum.ensures ∙ ap (λ q. value_of c.args.left +ℚ q) c.opposite.ensures
