use Rattle.std.proofs.Common.{ℕ, ◌<◌, ◌≤◌}
use Rattle.candidate_cables.specs.Tables.{IsNumberOf}
use Rattle.candidate_cables.proofs.Arcs.number.Given as goal

abbrev pub invariant-loop-number : goal.invariant-loop-number
invariant-loop-number l = (n : ℕ) → l.first ≤ n → n < l.number → ¬ (IsNumberOf l.self l.from l.to n)
