use Rattle.search_progress.specs.Open.{IsFirstBelow}
use Rattle.search_progress.proofs.open.first_open.Given as goal

abbrev pub invariant-loop-node : goal.invariant-loop-node
invariant-loop-node l = IsFirstBelow l.tree.nodes l.lanes l.numbers l.node-index l.first
