-- The fewer bytes are left, and the count stands while no write fails.
use Rattle.std.proofs.Common.{◌≡◌, length}
use Rattle.cable_text.proofs.standard.StdSinkSink.push.Given as goal

abbrev pub invariant-loop-rest : goal.invariant-loop-rest
invariant-loop-rest g l = l.self.failed ≡ l.fn.self.failed

abbrev pub decreases-loop-rest : goal.decreases-loop-rest
decreases-loop-rest g l = length l.rest
