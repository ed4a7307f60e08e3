use Rattle.std.proofs.Common.{refl}
use Rattle.bounded_fractions.specs.Value.{value_of}
use Rattle.bounded_fractions.proofs.Steps.{opposite_step, same_opposite_step}
use Rattle.bounded_fractions.proofs.fraction.Fraction.opposite.Goals as goal

pub invariant_of-result : goal.invariant_of-result
invariant_of-result c =
    let x = opposite_step c.args.self in
    record { positive = x.positive; lowest = x.lowest; num_in_range = x.num_in_range; den_in_range = x.den_in_range }

pub returns : goal.returns
unfolding value_of
returns c = same_opposite_step c.args.self _ refl refl
