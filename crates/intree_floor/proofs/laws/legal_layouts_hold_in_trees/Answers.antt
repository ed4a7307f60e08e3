use Rattle.intree_floor.proofs.Holding.{legal-in_tree}
use Rattle.intree_floor.proofs.laws.legal_layouts_hold_in_trees.Goals as goal

pub returns : goal.returns
returns c = legal-in_tree
