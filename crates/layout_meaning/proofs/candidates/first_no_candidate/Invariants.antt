use Rattle.std.proofs.Common.{ℕ, ◌<◌}
use Rattle.cable_definitions.specs.Layout.{KeepsCandidate}
use Rattle.layout_meaning.proofs.candidates.first_no_candidate.Given as goal

abbrev pub invariant-loop-i : goal.invariant-loop-i
invariant-loop-i l = (j : ℕ) → j < l.i → KeepsCandidate l.site l.cables j
