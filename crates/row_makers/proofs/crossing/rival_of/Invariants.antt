use Rattle.std.proofs.Common.{◌≡◌, ℕ, ◌<◌, slice_get, Some}
use Rattle.row_makers.specs.Rivals.{AreRivals}
use Rattle.row_makers.proofs.crossing.rival_of.Given as goal

abbrev pub invariant-loop-b : goal.invariant-loop-b
invariant-loop-b l = (k b : ℕ) → k < l.b-index → slice_get l.shared k ≡ Some b → AreRivals l.site l.arcs l.shares l.a b → ⊥
