use Rattle.std.proofs.Common.{◌≡◌, ℕ, ◌<◌, Some, slice_get}
use Rattle.node_reasons.specs.Reasons.{AreIncompatibleAt}
use Rattle.node_reasons.proofs.pairs.incompatible_with.Given as goal

abbrev pub invariant-loop-place : goal.invariant-loop-place
invariant-loop-place l = (j k : ℕ) → j < l.place → slice_get l.numbers j ≡ Some k → ¬ (AreIncompatibleAt l.site l.arcs k l.a)
