use Rattle.std.proofs.Common.{◌∙◌, sym, ap}
use Rattle.cable_definitions.specs.declared.site.Kind.{Kind}
use Rattle.cable_definitions.specs.Row.{speaks_of}
use Rattle.cable_rows.proofs.Forms.{kinds_unmet, kinds_more, kinds_met}
use Rattle.cable_rows.proofs.form.check_kinds.Goals as goal

pub returns-then-not-speaks_of-clause-unmet : goal.returns-then-not-speaks_of-clause-unmet
returns-then-not-speaks_of-clause-unmet c =
    let e = ap (λ (k : Kind). speaks_of c.args.kind k) c.kind.ensures.kind in
    kinds_unmet c.args.site.now c.args.arcs.now c.args.kind c.args.members.now c.loop-place.place c.loop-place-test.true (sym e ∙ (sym c.speaks_of.ensures ∙ c.if-not-speaks_of.true)) c.loop-place.invariant

pub loop-place-preserved : goal.loop-place-preserved
loop-place-preserved c =
    let e = ap (λ (k : Kind). speaks_of c.args.kind k) c.kind.ensures.kind in
    kinds_more c.args.site.now c.args.arcs.now c.args.kind c.args.members.now c.loop-place.place (sym e ∙ (sym c.speaks_of.ensures ∙ c.if-not-speaks_of.false)) c.loop-place.invariant

pub returns-clause-met : goal.returns-clause-met
returns-clause-met c = kinds_met c.args.site.now c.args.arcs.now c.args.kind c.args.members.now c.loop-place.place c.loop-place-test.false c.loop-place.invariant
