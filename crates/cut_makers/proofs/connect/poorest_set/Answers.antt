use Rattle.std.proofs.Common.{◌<◌, arith}
use Rattle.cut_makers.proofs.Poorest.{none_so_far, poorest_stays, poorest_found, none_poorest, some_poorest}
use Rattle.cut_makers.proofs.Sets.{of_none, of_some}
use Rattle.cut_makers.proofs.connect.poorest_set.Goals as goal

pub loop-turbine-init : goal.loop-turbine-init
loop-turbine-init c = none_so_far c.args.site.now c.args.arcs.now c.args.shares.now c.new-ends.result c.new-ends.ensures.size c.new-ends.ensures.substations

pub loop-turbine-preserved-in-Some-found : goal.loop-turbine-preserved-in-Some-found
loop-turbine-preserved-in-Some-found c =
    let waiting = of_some _ c.in-Some.turbine _ c.in-Some.is c.next_turbine.ensures.some in
    let below : c.in-Some.turbine < 256 = omega (arith, waiting.point, c.points-points.ensures.valid.points_count) in
    rw c.add.ensures
    (poorest_found c.args.site.now c.args.arcs.now c.args.shares.now c.loop-turbine.ends c.loop-turbine.level c.loop-turbine.poorest c.in-Some.turbine c.in-Some-found.set c.loop-turbine.invariant below
    waiting.turbine (of_some _ c.in-Some-found.set _ c.in-Some-found.is c.in_ok-found.ensures.turbine) (of_some _ c.in-Some-found.set _ c.in-Some-found.is c.in_ok-found.ensures.some)
    (of_some _ c.in-Some-found.set _ c.in-Some-found.is c.in_ok-found.ensures.less))

pub loop-turbine-preserved : goal.loop-turbine-preserved
loop-turbine-preserved c =
    let waiting = of_some _ c.in-Some.turbine _ c.in-Some.is c.next_turbine.ensures.some in
    let below : c.in-Some.turbine < 256 = omega (arith, waiting.point, c.points-points.ensures.valid.points_count) in
    rw c.add.ensures
    (poorest_stays c.args.site.now c.args.arcs.now c.args.shares.now c.loop-turbine.ends c.loop-turbine.level c.loop-turbine.poorest c.in-Some.turbine c.loop-turbine.invariant below
    (of_none _ _ c.in_default-found.is c.in_ok-found.ensures.none))

pub returns-clause-none : goal.returns-clause-none
returns-clause-none c =
    none_poorest c.args.site.now c.args.arcs.now c.args.shares.now c.loop-turbine.ends c.loop-turbine.level c.loop-turbine.poorest c.loop-turbine.invariant
    (of_none _ _ c.in_default.is c.next_turbine.ensures.none)

pub returns-clause-some : goal.returns-clause-some
returns-clause-some c =
    some_poorest c.args.site.now c.args.arcs.now c.args.shares.now c.loop-turbine.ends c.loop-turbine.level c.loop-turbine.poorest c.loop-turbine.invariant
    (of_none _ _ c.in_default.is c.next_turbine.ensures.none)
