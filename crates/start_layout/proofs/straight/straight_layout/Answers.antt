use Rattle.std.proofs.Common.{◌<◌, ◌+◌, ap, length, arith, sym, ◌∙◌, subst}
use Rattle.start_layout.proofs.Choosing.{pushed_on}
use Rattle.start_layout.proofs.Straightening.{none_straight, straight_pass, straight_more, straight_best, straight_all, AreStraightBelow}
use Rattle.start_layout.proofs.straight.straight_layout.Goals as goal
use Rattle.start_layout.proofs.straight.straight_layout.Goals.{then-is_turbine+in-Some, else-is_turbine}

pub returns-in-None-clause-none : goal.returns-in-None-clause-none
returns-in-None-clause-none c = none_straight c.args.site.now c.loop-turbine.turbine (cc) c.in-None.ensures

pub loop-turbine-preserved : goal.loop-turbine-preserved
loop-turbine-preserved c =
    let s = c.args.site.now in
    let p = c.loop-turbine.turbine in
    let layout = c.loop-turbine.layout in
    let known = c.loop-turbine.invariant in
    let count = ap length c.points.ensures.value in
    let valid = c.points.ensures.valid in
    elim c.if-is_turbine.branch [
      | then-is_turbine+in-Some w ↦ (
          let cable = w.in-Some.cable in
          let best = w.in-Some.ensures in
          let room : length layout < 256 = omega (arith, count, known.count, valid.points_count) in
          let pushed = pushed_on w.push.result layout w.push.new.self cable w.push.ensures.full.0 w.push.ensures.ok room in
          subst (AreStraightBelow s (p + 1)) (sym (w.layout-is ∙ pushed))
          (straight_more s p layout cable (cc) best.priced.from (straight_best s p cable w.in-Some.cost best) known))
      | else-is_turbine w ↦ (
          let other = straight_pass s p layout (λ t. absurd (cc)) known in
          subst (AreStraightBelow s (p + 1)) (sym w.layout-is) other)
    ]

pub returns-clause-some : goal.returns-clause-some
returns-clause-some c =
    let count = ap length c.points.ensures.value in
    straight_all c.args.site.now c.loop-turbine.turbine c.loop-turbine.layout (omega (arith, count)) c.loop-turbine.invariant
