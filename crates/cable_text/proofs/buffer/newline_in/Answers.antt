-- One more byte that is no newline, and all of them.
use Rattle.std.proofs.Common.{arith}
use Rattle.cable_text.proofs.Pending.{HasNoNewline-more, HasNoNewline-all}
use Rattle.cable_text.proofs.buffer.newline_in.Goals as goal

pub loop-place-preserved : goal.loop-place-preserved
loop-place-preserved c =
    HasNoNewline-more c.args.bytes.now c.loop-place.place (omega arith) c.loop-place.invariant c.if-byte-eq10.false

pub returns-clause-none : goal.returns-clause-none
returns-clause-none c = HasNoNewline-all c.args.bytes.now c.loop-place.place (omega arith) c.loop-place.invariant
