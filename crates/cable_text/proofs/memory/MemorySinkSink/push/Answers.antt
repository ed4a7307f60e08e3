-- A first part of the bytes was taken.
use Rattle.std.proofs.Common.{arith}
use Rattle.cable_text.proofs.Held.{Writes-part_taken}
use Rattle.cable_text.proofs.memory.MemorySinkSink.push.Goals as goal

pub returns-clause-writes : goal.returns-clause-writes
returns-clause-writes c =
    Writes-part_taken _ c.args.self.now c.take.new.self c.args.bytes.now (omega (arith, c.take.ensures.count)) c.if-take.ensures.part
