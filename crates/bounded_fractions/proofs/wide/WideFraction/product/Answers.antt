use Rattle.std.proofs.Common.{refl}
use Rattle.bounded_fractions.specs.Wide.{wide_value}
use Rattle.bounded_fractions.proofs.Casts.{divisor-some, divisor-no_more}
use Rattle.bounded_fractions.proofs.Steps.{IsReduced-product_step, same_product_step, product_fits}
use Rattle.bounded_fractions.proofs.wide.WideFraction.product.Goals as goal

pub part-requires-clause-some : goal.part-requires-clause-some
part-requires-clause-some c =
    divisor-some _ _ c.args.right.den c.greatest_divisor-first.ensures.1 c.den_size-right_den.ensures c.args.right.positive

pub part-requires-clause-no_more : goal.part-requires-clause-no_more
part-requires-clause-no_more c =
    divisor-no_more _ _ c.args.right.den c.greatest_divisor-first.ensures.1 c.den_size-right_den.ensures c.args.right.positive c.args.right.den_in_range

pub part-requires-2-clause-some : goal.part-requires-2-clause-some
part-requires-2-clause-some c =
    divisor-some _ _ c.args.left.den c.greatest_divisor-second.ensures.1 c.den_size-left_den.ensures c.args.left.positive

pub part-requires-2-clause-no_more : goal.part-requires-2-clause-no_more
part-requires-2-clause-no_more c =
    divisor-no_more _ _ c.args.left.den c.greatest_divisor-second.ensures.1 c.den_size-left_den.ensures c.args.left.positive c.args.left.den_in_range

pub overflow_mul-result : goal.overflow_mul-result
overflow_mul-result c = product_fits c.args.left c.args.right _ _ _ _ c.part.ensures c.part-2.ensures

pub nonzero_div-left_den : goal.nonzero_div-left_den
nonzero_div-left_den c =
    divisor-some _ _ c.args.left.den c.greatest_divisor-second.ensures.1 c.den_size-left_den.ensures c.args.left.positive

pub nonzero_div-right_den : goal.nonzero_div-right_den
nonzero_div-right_den c =
    divisor-some _ _ c.args.right.den c.greatest_divisor-first.ensures.1 c.den_size-right_den.ensures c.args.right.positive

pub invariant_of-result : goal.invariant_of-result
invariant_of-result c =
    let x =
    IsReduced-product_step c.args.left c.args.right _ _ _ _ _ _ _ _ _ _ c.den_size-left_den.ensures c.den_size-right_den.ensures c.num_size.ensures
    c.num_size-2.ensures c.greatest_divisor-first.ensures c.greatest_divisor-second.ensures c.part.ensures c.part-2.ensures c.from.ensures c.from-2.ensures in
    record { positive = x.positive; lowest = x.lowest }

pub returns : goal.returns
unfolding wide_value
returns c =
    same_product_step c.args.left c.args.right _ _ _ _ _ _ _ _ _ _ c.den_size-left_den.ensures c.den_size-right_den.ensures c.num_size.ensures
    c.num_size-2.ensures c.greatest_divisor-first.ensures c.greatest_divisor-second.ensures c.part.ensures c.part-2.ensures c.from.ensures c.from-2.ensures _ refl refl
