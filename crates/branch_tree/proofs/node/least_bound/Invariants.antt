use Rattle.std.proofs.Common.{map, take}
use Rattle.branch_tree.specs.Nodes.{as_node, IsLeastOf}
use Rattle.branch_tree.proofs.node.least_bound.Given as goal

abbrev pub invariant-loop-node : goal.invariant-loop-node
invariant-loop-node l = IsLeastOf (map as_node (take l.node-index l.nodes)) l.least
