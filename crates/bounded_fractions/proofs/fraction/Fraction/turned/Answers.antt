use Rattle.std.proofs.Common.{refl}
use Rattle.bounded_fractions.specs.Value.{value_of}
use Rattle.bounded_fractions.proofs.Steps.{turned_negative_step, turned_positive_step, same_turned_negative_step, same_turned_positive_step}
use Rattle.bounded_fractions.proofs.fraction.Fraction.turned.Goals as goal

pub invariant_of-result : goal.invariant_of-result
invariant_of-result c =
    let x = turned_negative_step c.args.self c.if-self-lt0.true in
    record { positive = x.positive; lowest = x.lowest; num_in_range = x.num_in_range; den_in_range = x.den_in_range }

pub returns-then-self-lt0 : goal.returns-then-self-lt0
unfolding value_of
returns-then-self-lt0 c = same_turned_negative_step c.args.self c.if-self-lt0.true c.requires _ refl refl

pub invariant_of-result-2 : goal.invariant_of-result-2
invariant_of-result-2 c =
    let x = turned_positive_step c.args.self c.requires c.if-self-lt0.false in
    record { positive = x.positive; lowest = x.lowest; num_in_range = x.num_in_range; den_in_range = x.den_in_range }

pub returns : goal.returns
unfolding value_of
returns c = same_turned_positive_step c.args.self c.requires c.if-self-lt0.false _ refl refl
