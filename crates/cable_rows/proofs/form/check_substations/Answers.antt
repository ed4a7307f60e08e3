use Rattle.std.proofs.Common.{◌∙◌, sym, ap}
use Rattle.cable_definitions.specs.Arcs.{is_substation}
use Rattle.cable_rows.proofs.Forms.{substation_unmet, substation_more, substation_met}
use Rattle.cable_rows.proofs.form.check_substations.Goals as goal

pub returns-then-is_substation-clause-unmet : goal.returns-then-is_substation-clause-unmet
returns-then-is_substation-clause-unmet c =
    let e = ap is_substation c.kind.ensures.kind in
    substation_unmet c.args.site.now c.args.arcs.now c.args.kind c.args.members.now c.loop-place.place c.in-Cut.is c.loop-place-test.true (sym e ∙ (sym c.is_substation.ensures.substation ∙ c.if-is_substation.true)) c.loop-place.invariant

pub loop-place-preserved : goal.loop-place-preserved
loop-place-preserved c =
    let e = ap is_substation c.kind.ensures.kind in
    substation_more c.args.site.now c.args.arcs.now c.args.kind c.args.members.now c.loop-place.place (sym e ∙ (sym c.is_substation.ensures.substation ∙ c.if-is_substation.false)) c.loop-place.invariant

pub returns-clause-met : goal.returns-clause-met
returns-clause-met c = substation_met c.args.site.now c.args.arcs.now c.args.kind c.args.members.now c.loop-place.place c.loop-place-test.false c.loop-place.invariant
