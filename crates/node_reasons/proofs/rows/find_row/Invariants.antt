use Rattle.std.proofs.Common.{◌≡◌, ℕ, ◌<◌, Some, slice_get}
use Rattle.cable_definitions.specs.Row.{Row}
use Rattle.cable_definitions.specs.Tree.{CannotMeet}
use Rattle.node_reasons.proofs.rows.find_row.Given as goal

abbrev pub invariant-loop-row : goal.invariant-loop-row
invariant-loop-row l = (row : ℕ) (r : Row) → row < l.row → slice_get l.pool row ≡ Some r → ¬ (CannotMeet l.node.site l.node.arcs l.node.marks r)
