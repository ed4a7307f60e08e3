-- Weights that reach the cost of the cheapest in-tree, and rows that no box can meet.
use Rattle.std.specs.Prelude.{◌≡◌, ℕ, ◌*◌, ◌^◌, ℤ, pos, ◌≤ℤ◌, List, length, slice_get, Some}
use Rattle.cable_definitions.specs.declared.cable.Cable.{Cable}
use Rattle.cable_definitions.specs.declared.cable.Arc.{Arc}
use Rattle.cable_definitions.specs.declared.row.Mark.{Mark}
use Rattle.cable_definitions.specs.Site.{Site}
use Rattle.cable_definitions.specs.InTree.{IsInTree, IsFloor}
use Rattle.cable_definitions.specs.Row.{Row}
use Rattle.cable_definitions.specs.Choice.{IsValue}
use Rattle.cable_definitions.specs.Tree.{CannotMeet}

-- whatever the marks of the arcs, the row can't be met in their box
abbrev pub IsNeverMet : Site → List Arc → Row → Type 0
IsNeverMet s arcs row = (marks : List Mark) → length marks ≡ length arcs → CannotMeet s arcs marks row

-- Whatever the marks of the arcs, the value of the weights is at least the cost of the cheapest in-tree, over 2 ^ 20; and where there is no
-- in-tree, one of the rows is never met.
pub record ReachFloor (s : Site) (arcs : List Arc) (rows : List Row) (weights : List (ℕ × ℤ)) : Type 0 where
  pub in_tree : (least : ℕ) → IsFloor s least → (marks : List Mark) (value : ℤ) → IsValue s arcs rows marks weights value → pos (2 ^ 20 * least) ≤ℤ value
  pub no_in_tree : ((tree : List Cable) → ¬ (IsInTree s tree)) → (r : ℕ) × (row : Row) × (slice_get rows r ≡ Some row) × IsNeverMet s arcs row
