use Rattle.row_makers.specs.Rivals.{AreSharedBelow}
use Rattle.row_makers.proofs.crossing.shared_arcs.Given as goal

abbrev pub invariant-loop-a : goal.invariant-loop-a
invariant-loop-a l = AreSharedBelow l.shares l.a l.shared.items
