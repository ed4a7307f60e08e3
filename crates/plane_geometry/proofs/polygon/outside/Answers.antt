use Rattle.std.proofs.Common.{sym, refl, ◌∙◌}
use Rattle.cable_definitions.specs.Plane.{IsOn}
use Rattle.plane_geometry.proofs.Polygons.{Passed-none, Passed-on, Passed-counting, Passed-skipping}
use Rattle.plane_geometry.proofs.polygon.outside.Goals as goal
use Rattle.plane_geometry.proofs.polygon.outside.Goals.{then-counts, else-counts}

pub loop-corner-init : goal.loop-corner-init
loop-corner-init c = Passed-none c.args.p c.in-Some.last.now c.args.corners.now (sym c.in-Some.ensures.value)

pub returns-then-lies_on : goal.returns-then-lies_on
returns-then-lies_on c = (
  λ t. cc,
  λ o. absurd (Passed-on c.args.p c.loop-corner.before c.corner-item.result c.args.corners.now c.loop-corner.corner-index c.loop-corner.counted c.loop-corner-test.true c.corner-item.is c.loop-corner.invariant (c.if-lies_on.ensures.0 refl) o.on_no_edge),
)

pub loop-corner-preserved : goal.loop-corner-preserved
loop-corner-preserved c =
    let off : ¬ (IsOn c.args.p c.loop-corner.before c.corner-item.result) = λ o. let g = c.if-lies_on.ensures.1 o in cc in
    elim c.if-counts.branch [
      | then-counts w ↦
          rw w.counted-is (Passed-counting c.args.p c.loop-corner.before c.corner-item.result c.args.corners.now c.loop-corner.corner-index c.loop-corner.counted c.loop-corner-test.true c.corner-item.is c.loop-corner.invariant off (sym c.counts.ensures ∙ w.if-counts.true))
      | else-counts w ↦
          rw w.counted-is (Passed-skipping c.args.p c.loop-corner.before c.corner-item.result c.args.corners.now c.loop-corner.corner-index c.loop-corner.counted c.loop-corner-test.true c.corner-item.is c.loop-corner.invariant off (sym c.counts.ensures ∙ w.if-counts.false))
    ]
