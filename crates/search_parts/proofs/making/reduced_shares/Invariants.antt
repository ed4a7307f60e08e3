use Rattle.search_parts.proofs.Reducing.{AreReducedBelow}
use Rattle.search_parts.proofs.making.reduced_shares.Given as goal

abbrev pub invariant-loop-arc : goal.invariant-loop-arc
invariant-loop-arc l = AreReducedBelow l.shares l.reduced l.arc
