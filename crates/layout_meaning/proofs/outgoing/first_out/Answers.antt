use Rattle.layout_meaning.proofs.FirstOut.{first_more, first_without, first_none}
use Rattle.layout_meaning.proofs.outgoing.first_out.Goals as goal
use Rattle.layout_meaning.proofs.outgoing.first_out.Goals.{then-p-lt-POINTS, else-p-lt-POINTS}

pub loop-cable-init : goal.loop-cable-init
loop-cable-init c = first_none

pub loop-cable-preserved : goal.loop-cable-preserved
loop-cable-preserved c = elim c.if-p-lt-POINTS.branch [
  | then-p-lt-POINTS w ↦ rw (w.first-is, w.or.ensures) (first_more c.args.cables.now c.loop-cable.first c.loop-cable.cable-index (record { from = 0; to = 0; grade = 0 }) c.loop-cable.invariant c.loop-cable-test.true w.if-p-lt-POINTS.true)
  | else-p-lt-POINTS w ↦ rw w.first-is (first_without c.args.cables.now c.loop-cable.first c.loop-cable.cable-index (record { from = 0; to = 0; grade = 0 }) c.loop-cable.invariant c.loop-cable-test.true w.if-p-lt-POINTS.false)
]
