use Rattle.std.proofs.Common.{ℕ, ◌<◌}
use Rattle.cable_rows.specs.Form.{IsPairedWell}
use Rattle.cable_rows.proofs.form.check_pairs.Given as goal

abbrev pub invariant-loop-first : goal.invariant-loop-first
invariant-loop-first l = (i j : ℕ) → i < l.first → IsPairedWell l.site l.arcs l.members i j
