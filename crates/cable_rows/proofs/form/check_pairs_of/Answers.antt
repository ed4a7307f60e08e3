use Rattle.std.proofs.Common.{arith}
use Rattle.cable_rows.proofs.Forms.{pair_unmet, pair_more, pairs_well}
use Rattle.cable_rows.proofs.form.check_pairs_of.Goals as goal

pub returns-then-not-incompatible-clause-unmet : goal.returns-then-not-incompatible-clause-unmet
returns-then-not-incompatible-clause-unmet c =
    pair_unmet c.args.site.now c.args.arcs.now c.args.members.now c.args.first c.loop-second.second c.incompatible.result (omega arith) c.loop-second-test.true c.requires.members c.incompatible.ensures c.if-not-incompatible.true c.loop-second.invariant

pub loop-second-preserved : goal.loop-second-preserved
loop-second-preserved c =
    pair_more c.args.site.now c.args.arcs.now c.args.members.now c.args.first c.loop-second.second c.incompatible.result c.incompatible.ensures c.if-not-incompatible.false c.loop-second.invariant

pub returns-clause-met : goal.returns-clause-met
returns-clause-met c = pairs_well c.args.site.now c.args.arcs.now c.args.members.now c.args.first c.loop-second.second c.loop-second-test.false c.loop-second.invariant
