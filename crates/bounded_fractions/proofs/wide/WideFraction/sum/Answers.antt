use Rattle.std.proofs.Common.{refl}
use Rattle.std.proofs.Math.Nat.{pos_of_dvd_of_pos}
use Rattle.bounded_fractions.specs.Wide.{wide_value}
use Rattle.bounded_fractions.proofs.Casts.{divisor-some}
use Rattle.bounded_fractions.proofs.Steps.{sum_fits, sum_quotient_fits, part-most, IsReduced-sum_step, same_sum_step}
use Rattle.bounded_fractions.proofs.wide.WideFraction.sum.Goals as goal

pub overflow_add-num : goal.overflow_add-num
overflow_add-num c =
    sum_fits c.args.left c.args.right _ _ _ _ (part-most c.args.right _ _ c.den_size-right_den.ensures) (part-most c.args.left _ _ c.den_size-left_den.ensures)
    c.times.ensures c.times-2.ensures

pub shared_divisor-divisor-requires : goal.shared_divisor-divisor-requires
shared_divisor-divisor-requires c =
    divisor-some _ _ c.args.left.den c.greatest_divisor-shared.ensures.0 c.den_size-left_den.ensures c.args.left.positive

pub nonzero_div-result : goal.nonzero_div-result
nonzero_div-result c =
    sum_quotient_fits c.args.left c.args.right _ _ _ _ (part-most c.args.right _ _ c.den_size-right_den.ensures)
    (part-most c.args.left _ _ c.den_size-left_den.ensures) c.times.ensures c.times-2.ensures _ _ c.from.ensures
    (pos_of_dvd_of_pos c.shared_divisor-divisor.ensures.1
    (divisor-some _ _ c.args.left.den c.greatest_divisor-shared.ensures.0 c.den_size-left_den.ensures c.args.left.positive))
    c.shared_divisor-divisor.type_inv

pub nonzero_div-right_den-2 : goal.nonzero_div-right_den-2
nonzero_div-right_den-2 c =
    pos_of_dvd_of_pos c.shared_divisor-divisor.ensures.1
    (divisor-some _ _ c.args.left.den c.greatest_divisor-shared.ensures.0 c.den_size-left_den.ensures c.args.left.positive)

pub invariant_of-result : goal.invariant_of-result
invariant_of-result c =
    let x =
    IsReduced-sum_step c.args.left c.args.right _ _ _ _ _ _ _ _ _ _ c.den_size-left_den.ensures c.den_size-right_den.ensures
    c.greatest_divisor-shared.ensures c.times.ensures c.times-2.ensures c.unsigned_abs.ensures.value c.shared_divisor-divisor.ensures c.from.ensures
    c.shared_divisor-divisor.type_inv c.from-2.ensures c.from-3.ensures in
    record { positive = x.positive; lowest = x.lowest }

pub returns : goal.returns
unfolding wide_value
returns c =
    same_sum_step c.args.left c.args.right _ _ _ _ _ _ _ _ _ _ c.den_size-left_den.ensures c.den_size-right_den.ensures
    c.greatest_divisor-shared.ensures c.times.ensures c.times-2.ensures c.unsigned_abs.ensures.value c.shared_divisor-divisor.ensures c.from.ensures
    c.shared_divisor-divisor.type_inv c.from-2.ensures c.from-3.ensures _ refl refl
