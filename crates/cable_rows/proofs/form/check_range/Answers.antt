use Rattle.cable_rows.proofs.Forms.{range_unmet, range_more, range_met}
use Rattle.cable_rows.proofs.form.check_range.Goals as goal

pub returns-then-member-count-clause-unmet : goal.returns-then-member-count-clause-unmet
returns-then-member-count-clause-unmet c =
    range_unmet c.args.site.now c.args.arcs.now c.args.kind c.args.members.now c.loop-place.place c.member_count-count.result c.loop-place-test.true c.member_count-count.ensures c.if-member-count.true c.loop-place.invariant

pub loop-place-preserved : goal.loop-place-preserved
loop-place-preserved c =
    range_more c.args.site.now c.args.arcs.now c.args.kind c.args.members.now c.loop-place.place c.member_count-count.result c.member_count-count.ensures c.if-member-count.false c.loop-place.invariant

pub returns-clause-met : goal.returns-clause-met
returns-clause-met c = range_met c.args.site.now c.args.arcs.now c.args.kind c.args.members.now c.loop-place.place c.loop-place-test.false c.loop-place.invariant
