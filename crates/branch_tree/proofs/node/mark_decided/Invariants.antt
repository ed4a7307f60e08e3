use Rattle.std.proofs.Common.{◌≡◌, ℕ, ◌<◌, ◌≤◌, length, map}
use Rattle.branch_tree.specs.Nodes.{as_node}
use Rattle.branch_tree.proofs.Marking.{IsMarked}
use Rattle.branch_tree.proofs.node.mark_decided.Given as goal

abbrev pub invariant-loop-at : goal.invariant-loop-at
invariant-loop-at l = record {
  within : l.at ≤ length l.nodes;
  count : length l.into ≡ length l.initial.into;
  marks : (a : ℕ) → a < length l.into → IsMarked (map as_node l.nodes) l.node l.into a l.at;
}

abbrev pub decreases-loop-at : goal.decreases-loop-at
decreases-loop-at l = l.at
