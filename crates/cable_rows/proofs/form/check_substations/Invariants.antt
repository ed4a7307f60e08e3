use Rattle.std.proofs.Common.{ℕ, ◌<◌}
use Rattle.cable_definitions.specs.Row.{Meets, NoSubstation}
use Rattle.cable_rows.proofs.form.check_substations.Given as goal

abbrev pub invariant-loop-place : goal.invariant-loop-place
invariant-loop-place l = (i j : ℕ) → i < l.place → Meets l.site l.arcs l.fn.kind l.members NoSubstation i j
