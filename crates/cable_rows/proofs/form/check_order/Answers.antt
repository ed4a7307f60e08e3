use Rattle.std.proofs.Common.{◌-◌, arith}
use Rattle.cable_rows.proofs.Forms.{order_unmet, order_more, order_met}
use Rattle.cable_rows.proofs.form.check_order.Goals as goal

pub returns-then-members-place-clause-unmet : goal.returns-then-members-place-clause-unmet
returns-then-members-place-clause-unmet c =
    order_unmet c.args.site.now c.args.arcs.now c.args.kind c.args.members.now c.loop-place.place (c.loop-place.place - 1) (omega arith) c.loop-place-test.true c.if-members-place.true c.loop-place.invariant

pub loop-place-preserved : goal.loop-place-preserved
loop-place-preserved c =
    order_more c.args.site.now c.args.arcs.now c.args.kind c.args.members.now c.loop-place.place (c.loop-place.place - 1) (omega arith) c.if-members-place.false c.loop-place.invariant

pub returns-clause-met : goal.returns-clause-met
returns-clause-met c = order_met c.args.site.now c.args.arcs.now c.args.kind c.args.members.now c.loop-place.place c.loop-place-test.false c.loop-place.invariant
