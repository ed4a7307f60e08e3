use Rattle.std.proofs.Common.{ℕ, ◌<◌}
use Rattle.cable_rows.specs.Form.{IsPairedWell}
use Rattle.cable_rows.proofs.form.check_pairs_of.Given as goal

abbrev pub invariant-loop-second : goal.invariant-loop-second
invariant-loop-second l = (j : ℕ) → j < l.second → IsPairedWell l.site l.arcs l.members l.first j
