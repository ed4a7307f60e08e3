use Rattle.std.proofs.Common.{arith}
use Rattle.node_reasons.proofs.pairs.incompatible_with.Goals as goal

pub returns-clause-none : goal.returns-clause-none
returns-clause-none c = λ j k l e. c.loop-place.invariant j k (omega arith) e
