use Rattle.std.proofs.Common.{◌*◌, take}
use Rattle.cable_definitions.specs.Row.{is_member}
use Rattle.node_reasons.specs.RowBox.{IsExtentAt}
use Rattle.node_reasons.proofs.boxed_row.BoxedRow.extent_among.Given as goal

abbrev pub invariant-loop-number : goal.invariant-loop-number
invariant-loop-number l = IsExtentAt l.self (λ a. is_member (take l.number-index l.numbers) a) (2000000 * l.number-index) l.sum
