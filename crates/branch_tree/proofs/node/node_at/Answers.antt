use Rattle.std.proofs.Common.{arith}
use Rattle.branch_tree.proofs.Kept.{node_of-kept}
use Rattle.branch_tree.proofs.node.node_at.Goals as goal

pub returns : goal.returns
returns c = node_of-kept c.args.nodes.now c.args.node _ (omega arith) (omega arith)
