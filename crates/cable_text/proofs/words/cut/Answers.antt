use Rattle.std.proofs.Common.{arith}
use Rattle.std.proofs.lemmas.List.{take_rest}
use Rattle.cable_text.proofs.Splitting.{parts_at, parts_none}
use Rattle.cable_text.proofs.words.cut.Goals as goal

pub returns-then-byte-eq32 : goal.returns-then-byte-eq32
returns-then-byte-eq32 c = rw take_rest (parts_at c.args.text.now c.loop-i.i (omega arith) c.loop-i.invariant c.if-byte-eq32.true)

pub returns : goal.returns
returns c = parts_none c.args.text.now (λ k l. c.loop-i.invariant k (omega arith))
