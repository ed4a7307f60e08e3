use Rattle.std.proofs.Common.{◌<◌, ◌∙◌, sym, ap, length, arith}
use Rattle.cable_definitions.specs.Arcs.{is_substation}
use Rattle.cut_makers.proofs.Endings.{no_ends, substation_added, substation_skipped, all_substations, kind_there}
use Rattle.cut_makers.proofs.ends.Ends.new.Goals as goal
use Rattle.cut_makers.proofs.ends.Ends.new.Goals.{then-is_substation, else-is_substation}

pub loop-p-init : goal.loop-p-init
loop-p-init c = no_ends c.args.site.now

pub loop-p-preserved : goal.loop-p-preserved
loop-p-preserved c =
    let inside : c.loop-p.p < length c.args.site.now.points = omega (arith, c.loop-p-test.true, ap length c.points.ensures.value) in
    let same = ap is_substation (kind_there c.args.site.now c.points-in-loop-p.result.now c.loop-p.p c.index-points-p.result c.points-in-loop-p.ensures.value inside) in
    elim c.if-is_substation.branch [
      | then-is_substation w ↦ rw (w.ends-is, w.add.ensures)
          (substation_added c.args.site.now c.loop-p.ends c.loop-p.p c.loop-p.invariant (omega (arith, inside, c.points.ensures.valid.points_count)) (same ∙ sym c.is_substation.ensures.substation ∙ w.if-is_substation.true))
      | else-is_substation w ↦ rw w.ends-is (substation_skipped c.args.site.now c.loop-p.ends c.loop-p.p c.loop-p.invariant (same ∙ sym c.is_substation.ensures.substation ∙ w.if-is_substation.false))
    ]

pub returns-clause-substations : goal.returns-clause-substations
returns-clause-substations c =
    all_substations c.args.site.now c.loop-p.ends c.loop-p.p c.loop-p.invariant (omega (arith, c.loop-p-test.false, ap length c.points.ensures.value))
