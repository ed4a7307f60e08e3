use Rattle.std.proofs.Common.{◌*◌, ◌≤◌, [], ◌∷◌, length}
use Rattle.node_reasons.specs.RowBox.{IsExtentAt}
use Rattle.node_reasons.proofs.OwnSums.{starts_below}
use Rattle.node_reasons.proofs.boxed_row.BoxedRow.extent_out.Given as goal

abbrev pub invariant-loop-number : goal.invariant-loop-number
invariant-loop-number l = record {
  sums : IsExtentAt l.self (starts_below l.self.arcs.now (l.fn.p ∷ []) l.number) (2000000 * l.number) l.sum;
  within : l.number ≤ length l.self.arcs.now;
}
