use Rattle.std.proofs.Common.{ℕ, ◌<◌}
use Rattle.cable_definitions.specs.Row.{Meets, RightKind}
use Rattle.cable_rows.proofs.form.check_kinds.Given as goal

abbrev pub invariant-loop-place : goal.invariant-loop-place
invariant-loop-place l = (i j : ℕ) → i < l.place → Meets l.site l.arcs l.kind l.members RightKind i j
