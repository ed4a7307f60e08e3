use Rattle.std.proofs.Common.{map, take, arith}
use Rattle.branch_tree.specs.Nodes.{as_node}
use Rattle.branch_tree.proofs.Leaves.{least_more}
use Rattle.branch_tree.proofs.node.least_bound.Goals as goal

pub loop-node-preserved : goal.loop-node-preserved
loop-node-preserved c =
    least_more c.args.nodes.now c.loop-node.node-index _ c.lesser_with_node-least.result (omega arith)
    (c.lesser_with_node-least.ensures (map as_node (take c.loop-node.node-index c.args.nodes.now)) c.loop-node.invariant)
