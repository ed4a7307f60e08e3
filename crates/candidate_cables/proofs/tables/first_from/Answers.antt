use Rattle.candidate_cables.proofs.Numbering.{first_here, first_past, earlier_more}
use Rattle.candidate_cables.proofs.tables.first_from.Goals as goal

pub returns-then-arc-p : goal.returns-then-arc-p
returns-then-arc-p c = first_here c.args.arcs.now c.args.p c.loop-number.number _ c.requires.in_order c.loop-number-test.true c.if-arc-p.true c.loop-number.invariant

pub loop-number-preserved : goal.loop-number-preserved
loop-number-preserved c = earlier_more c.args.arcs.now c.args.p c.loop-number.number _ c.if-arc-p.false c.loop-number.invariant

pub returns : goal.returns
returns c = first_past c.args.arcs.now c.args.p c.loop-number.number c.loop-number-test.false c.loop-number.invariant
