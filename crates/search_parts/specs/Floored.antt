-- What the work on node 1 leaves of it.
use Rattle.std.specs.Prelude.{◌≡◌, ℕ, ◌≤◌, ◌⊎◌, List}
use Rattle.cable_definitions.specs.declared.cable.Cable.{Cable}
use Rattle.cable_definitions.specs.Site.{Site}
use Rattle.cable_definitions.specs.Budget.{IsNearest}
use Rattle.cable_definitions.specs.InTree.{HasNoBends, IsInTree, IsFloor}
use Rattle.cable_definitions.specs.Tree.{Node, WasDead}

-- It is dead, or its bound is at least the sum of the least costs out of the turbines, where there is one. On a site
-- without bends it is dead, or its bound is at least the cost of the cheapest in-tree, and it is dead where there is no in-tree.
pub record IsFloored (s : Site) (node : Node) : Type 0 where
  pub nearest : (nearest : ℕ) → IsNearest s nearest → (node.status ≡ WasDead) ⊎ (nearest ≤ node.bound)
  pub in_tree : HasNoBends s → (least : ℕ) → IsFloor s least → (node.status ≡ WasDead) ⊎ (least ≤ node.bound)
  pub no_in_tree : HasNoBends s → ((tree : List Cable) → ¬ (IsInTree s tree)) → node.status ≡ WasDead
