use Rattle.std.proofs.Common.{refl}
use Rattle.bounded_fractions.specs.Wide.{wide_value}
use Rattle.bounded_fractions.proofs.Steps.{quotient_step, opposite_lowest, same_quotient_step, same_opposite_quotient_step}
use Rattle.bounded_fractions.proofs.wide.WideFraction.quotient.Goals as goal

pub invariant_of-result : goal.invariant_of-result
invariant_of-result c =
    let x = quotient_step _ _ _ _ _ _ _ _ _ c.ranges.num c.ranges.den c.requires c.unsigned_abs.ensures.value c.unsigned_abs-2.ensures.value
    c.greatest_divisor-divisor.ensures c.greatest_divisor-divisor.type_inv c.from.ensures c.from-2.ensures c.unsigned_abs-3.ensures.value c.from-rest.ensures in
    record {
      positive = x.positive;
      lowest = opposite_lowest _ _ _ _ _ _ _ _ _ c.ranges.num c.ranges.den c.requires c.unsigned_abs.ensures.value c.unsigned_abs-2.ensures.value
          c.greatest_divisor-divisor.ensures c.greatest_divisor-divisor.type_inv c.from.ensures c.from-2.ensures c.unsigned_abs-3.ensures.value c.from-rest.ensures;
    }

pub returns-then-den-lt0 : goal.returns-then-den-lt0
unfolding wide_value
returns-then-den-lt0 c = same_opposite_quotient_step _ _ _ _ _ _ _ _ _ c.ranges.num c.ranges.den c.requires c.unsigned_abs.ensures.value c.unsigned_abs-2.ensures.value
    c.greatest_divisor-divisor.ensures c.greatest_divisor-divisor.type_inv c.from.ensures c.from-2.ensures c.unsigned_abs-3.ensures.value c.from-rest.ensures c.if-den-lt0.true _ refl refl

pub invariant_of-result-2 : goal.invariant_of-result-2
invariant_of-result-2 c =
    let x = quotient_step _ _ _ _ _ _ _ _ _ c.ranges.num c.ranges.den c.requires c.unsigned_abs.ensures.value c.unsigned_abs-2.ensures.value
    c.greatest_divisor-divisor.ensures c.greatest_divisor-divisor.type_inv c.from.ensures c.from-2.ensures c.unsigned_abs-3.ensures.value c.from-rest.ensures in
    record { positive = x.positive; lowest = x.lowest }

pub returns : goal.returns
unfolding wide_value
returns c = same_quotient_step _ _ _ _ _ _ _ _ _ c.ranges.num c.ranges.den c.requires c.unsigned_abs.ensures.value c.unsigned_abs-2.ensures.value
    c.greatest_divisor-divisor.ensures c.greatest_divisor-divisor.type_inv c.from.ensures c.from-2.ensures c.unsigned_abs-3.ensures.value c.from-rest.ensures c.if-den-lt0.false _ refl refl
