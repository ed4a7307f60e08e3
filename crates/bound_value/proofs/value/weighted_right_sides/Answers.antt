use Rattle.std.proofs.Common.{◌≤◌, ℤ, pos, get_or, unsigned_abs, to_z, refl, subst, arith}
use Rattle.std.specs.Int.{w128}
use Rattle.cable_definitions.specs.Row.{Row, right}
use Rattle.cable_rows.proofs.Weighing.{next_weight, next_added}
use Rattle.bound_value.proofs.value.weighted_right_sides.Goals as goal

pub loop-weight-preserved : goal.loop-weight-preserved
loop-weight-preserved c =
    let s = c.args.site.now in
    let rows = c.args.pool.now in
    let weights = c.args.weights.now in
    let i = c.loop-weight.weight-index in
    let w = get_or c.as_slice-weight-items.result.now i (0, pos 0) in
    let total = to_z w128 c.loop-weight.sum-bits in
    let n = next_weight rows weights c.as_slice-weight-items.result.now i c.requires c.as_slice-weight-items.ensures.value c.loop-weight-test.true c.as_slice-weight-items.ensures.at_most in
    let count = c.right.ensures.value n.row n.listed in
    let sum = next_added (λ (row : Row). right s row.kind row.members) 76800000 rows weights i w total total c.right.result c.weighted-sum.result (omega arith) n
    c.loop-weight.invariant.sum c.loop-weight.invariant.small refl count (subst (λ (z : ℤ). unsigned_abs z ≤ 76800000) count c.right.ensures.small) c.weighted-sum.ensures.product in
    record { sum = sum.1; small = sum.2 }
