-- The bytes that were pulled stand behind those that are used.
use Rattle.std.proofs.Common.{sym, arith}
use Rattle.cable_text.proofs.Pending.{ahead-pull}
use Rattle.cable_text.proofs.buffer.pull_behind.Goals as goal

pub returns-clause-bytes : goal.returns-clause-bytes
returns-clause-bytes g c =
    ahead-pull c.pull.result c.args.storage.now c.pull.new.buf c.args.used _ _ _ _ (omega arith) (sym c.pull.auto.buf) c.pull.ensures.bound c.pull.ensures.bytes
