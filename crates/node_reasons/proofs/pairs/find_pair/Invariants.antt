use Rattle.std.proofs.Common.{◌≡◌, ℕ, ◌<◌, Some, slice_get}
use Rattle.node_reasons.specs.Reasons.{AreIncompatibleAt}
use Rattle.node_reasons.proofs.pairs.find_pair.Given as goal

abbrev pub invariant-loop-place : goal.invariant-loop-place
invariant-loop-place l =
    (i a j b : ℕ) → i < l.place → slice_get l.numbers i ≡ Some a → j < i → slice_get l.numbers j ≡ Some b → ¬ (AreIncompatibleAt l.node-inside.site.now l.node-inside.arcs.now b a)
