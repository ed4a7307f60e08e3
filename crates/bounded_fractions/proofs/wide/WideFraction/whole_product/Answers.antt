use Rattle.std.proofs.Common.{refl, lit≤}
use Rattle.bounded_fractions.specs.Wide.{wide_value}
use Rattle.bounded_fractions.proofs.Steps.{whole_product_fits, same_whole_product, AreCoprime-one}
use Rattle.bounded_fractions.proofs.wide.WideFraction.whole_product.Goals as goal

pub overflow_mul-result : goal.overflow_mul-result
overflow_mul-result c = whole_product_fits c.args.left c.args.right _ _ c.requires.left_is c.requires.right_is c.times.ensures c.times-2.ensures

pub invariant_of-result : goal.invariant_of-result
invariant_of-result c = record { positive = lit≤ tt; lowest = AreCoprime-one _ }

pub returns : goal.returns
unfolding wide_value
returns c = same_whole_product c.args.left c.args.right _ _ c.requires.left_is c.requires.right_is c.times.ensures c.times-2.ensures _ refl refl
