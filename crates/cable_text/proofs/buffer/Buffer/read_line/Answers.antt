-- As many bytes as fit hold no newline.
use Rattle.std.proofs.Common.{length, ap, arith}
use Rattle.cable_text.proofs.Pending.{Finds-long}
use Rattle.cable_text.proofs.buffer.Buffer.read_line.Goals as goal

pub returns-clause-piece : goal.returns-clause-piece
returns-clause-piece g c =
    let i = c.loop-self.invariant in
    Finds-long c.loop-self.self.pending _ _ i.bytes (omega (arith, ap length c.pending.ensures.bytes, c.pending.ensures.room)) i.plain
