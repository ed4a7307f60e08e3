use Rattle.std.proofs.Common.{◌≡◌, ℕ, ◌<◌, slice_get, Some}
use Rattle.row_makers.specs.Rivals.{HasNoRival}
use Rattle.row_makers.proofs.crossing.crossing_row.Given as goal

abbrev pub invariant-loop-a : goal.invariant-loop-a
invariant-loop-a l = (k a : ℕ) → k < l.a-index → slice_get l.a-items k ≡ Some a → HasNoRival l.site l.arcs l.shares a
