use Rattle.std.proofs.Common.{sym, subst, arith}
use Rattle.std.specs.Prelude.{replicate, false}
use Rattle.turbine_weights.specs.Weighing.{AreWeighed}
use Rattle.turbine_weights.proofs.Weighing.{weighed_none, weighed_all, turbine_weights-lawful}
use Rattle.turbine_weights.proofs.turbines.weigh_turbines.Goals as goal

pub loop-row-init : goal.loop-row-init
loop-row-init c =
    subst (AreWeighed c.args.site.now c.args.arcs.now c.args.pool.now c.args.decisions.now 0 (replicate 256 false)) (sym c.clear.ensures)
    (weighed_none c.args.site.now c.args.arcs.now c.args.pool.now c.args.decisions.now)

pub returns-clause-weights : goal.returns-clause-weights
returns-clause-weights c =
    weighed_all c.args.site.now c.args.arcs.now c.args.pool.now c.args.decisions.now c.loop-row.row c.loop-row.weighed c.loop-row.weights (omega (arith, c.loop-row-test.false, c.len-row-end.ensures.count)) c.loop-row.invariant

pub returns-clause-lawful : goal.returns-clause-lawful
returns-clause-lawful c =
    turbine_weights-lawful c.args.site.now c.args.arcs.now c.args.pool.now c.args.decisions.now c.loop-row.weights c.points-points.ensures.valid
    (weighed_all c.args.site.now c.args.arcs.now c.args.pool.now c.args.decisions.now c.loop-row.row c.loop-row.weighed c.loop-row.weights (omega (arith, c.loop-row-test.false, c.len-row-end.ensures.count)) c.loop-row.invariant)
