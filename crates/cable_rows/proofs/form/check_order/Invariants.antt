use Rattle.std.proofs.Common.{ℕ, ◌<◌, ◌+◌}
use Rattle.cable_definitions.specs.Row.{Meets, Ascending}
use Rattle.cable_rows.proofs.form.check_order.Given as goal

abbrev pub invariant-loop-place : goal.invariant-loop-place
invariant-loop-place l = (i j : ℕ) → i + 1 < l.place → Meets l.site l.arcs l.fn.kind l.members Ascending i j
