use Rattle.search_parts.proofs.Choosing.{IsFreeBelow}
use Rattle.search_parts.proofs.branching.most_open.Given as goal

abbrev pub invariant-loop-arc : goal.invariant-loop-arc
invariant-loop-arc l = IsFreeBelow l.decisions l.arc l.best
