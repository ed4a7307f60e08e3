use Rattle.std.proofs.Common.{◌*◌, slice_get, take}
use Rattle.node_reasons.specs.Own.{starts_in}
use Rattle.node_reasons.specs.RowBox.{IsExtentAt}
use Rattle.node_reasons.proofs.boxed_row.BoxedRow.extent_out_of.Given as goal

abbrev pub invariant-loop-point : goal.invariant-loop-point
invariant-loop-point l = IsExtentAt l.self (λ a. starts_in (take l.point-index l.points) (slice_get l.self.arcs.now a)) (200000000000 * l.point-index) l.sum
