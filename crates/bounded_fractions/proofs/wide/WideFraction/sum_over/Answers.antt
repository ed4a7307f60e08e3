use Rattle.std.proofs.Common.{refl, lit≤, sym}
use Rattle.bounded_fractions.specs.Wide.{wide_value}
use Rattle.bounded_fractions.proofs.Casts.{divisor-some}
use Rattle.bounded_fractions.proofs.Steps.{sum_quotient_fits, IsReduced-whole_step, IsReduced-over_step, same_over}
use Rattle.bounded_fractions.proofs.wide.WideFraction.sum_over.Goals as goal

pub invariant_of-result : goal.invariant_of-result
invariant_of-result c =
    let x =
    IsReduced-whole_step c.args.left c.args.right _ _ _ c.requires.left_is c.requires.right_is c.times.ensures c.times-2.ensures c.if-den-eq1.true in
    record { positive = x.positive; lowest = x.lowest }

pub returns-then-den-eq1 : goal.returns-then-den-eq1
unfolding wide_value
returns-then-den-eq1 c =
    same_over c.args.left c.args.right _ _ _ c.requires.left_is c.requires.right_is c.times.ensures c.times-2.ensures _ _ _
    (IsReduced-whole_step c.args.left c.args.right _ _ _ c.requires.left_is c.requires.right_is c.times.ensures c.times-2.ensures c.if-den-eq1.true)
    refl
    refl

pub nonzero_div-result : goal.nonzero_div-result
nonzero_div-result c =
    sum_quotient_fits c.args.left c.args.right 1 1 _ _ (lit≤ tt) (lit≤ tt) c.times.ensures c.times-2.ensures _ _ c.from.ensures
    (divisor-some _ _ c.args.left.den c.shared_divisor-divisor.ensures.1 (sym c.requires.left_is) c.args.left.positive)
    c.shared_divisor-divisor.type_inv

pub nonzero_div-den : goal.nonzero_div-den
nonzero_div-den c =
    divisor-some _ _ c.args.left.den c.shared_divisor-divisor.ensures.1 (sym c.requires.left_is) c.args.left.positive

pub invariant_of-result-2 : goal.invariant_of-result-2
invariant_of-result-2 c =
    let x =
    IsReduced-over_step c.args.left c.args.right _ _ _ c.requires.left_is c.requires.right_is c.times.ensures c.times-2.ensures _ _ _ _
    c.unsigned_abs.ensures.value c.shared_divisor-divisor.ensures c.from.ensures c.shared_divisor-divisor.type_inv c.from-2.ensures in
    record { positive = x.positive; lowest = x.lowest }

pub returns : goal.returns
unfolding wide_value
returns c =
    same_over c.args.left c.args.right _ _ _ c.requires.left_is c.requires.right_is c.times.ensures c.times-2.ensures _ _ _
    (IsReduced-over_step c.args.left c.args.right _ _ _ c.requires.left_is c.requires.right_is c.times.ensures c.times-2.ensures _ _ _ _
    c.unsigned_abs.ensures.value c.shared_divisor-divisor.ensures c.from.ensures c.shared_divisor-divisor.type_inv c.from-2.ensures)
    refl
    refl
