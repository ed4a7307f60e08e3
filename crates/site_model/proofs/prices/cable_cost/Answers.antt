use Rattle.std.proofs.Common.{arith}
use Rattle.site_model.proofs.Costs.{rate_small, metres_small}
use Rattle.site_model.proofs.prices.cable_cost.Goals as goal

pub overflow_mul-result : goal.overflow_mul-result
overflow_mul-result c =
    let r = rate_small c.from-3.result c.from.result c.from-load.result (omega arith) (omega arith) (omega arith) in
    omega (arith, metres_small c.from-2.result _ (omega arith) r)

pub overflow_add-result-2 : goal.overflow_add-result-2
overflow_add-result-2 c =
    let r = rate_small c.from-3.result c.from.result c.from-load.result (omega arith) (omega arith) (omega arith) in
    omega (arith, metres_small c.from-2.result _ (omega arith) r)
