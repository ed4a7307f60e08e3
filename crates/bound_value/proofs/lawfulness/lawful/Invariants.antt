use Rattle.bound_value.proofs.LawfulWeights.{AreLawfulBelow}
use Rattle.bound_value.proofs.lawfulness.lawful.Given as goal

abbrev pub invariant-loop-row : goal.invariant-loop-row
invariant-loop-row l = AreLawfulBelow l.pool l.weights l.row-index l.next
