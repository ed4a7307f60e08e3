use Rattle.std.proofs.Common.{◌∙◌, ap}
use Rattle.fraction_laws.specs.Rational.{◌*ℚ◌, ◌/ℚ◌}
use Rattle.bounded_fractions.specs.Value.{value_of}
use Rattle.bounded_fractions.proofs.wide.WideFraction.ratio.Goals as goal

pub returns : goal.returns
unfolding ◌/ℚ◌
returns c = c.product.ensures ∙ ap (λ q. value_of c.args.left *ℚ q) c.turned.ensures
