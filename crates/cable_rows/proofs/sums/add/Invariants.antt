use Rattle.std.proofs.Common.{◌≡◌, ◌<◌, ℕ, pos, ◌+ℤ◌, ◌*ℤ◌, get_or, take}
use Rattle.cable_definitions.specs.Row.{is_member, one_if}
use Rattle.cable_rows.proofs.sums.add.Given as goal

abbrev pub invariant-loop-member : goal.invariant-loop-member
invariant-loop-member l = (p : ℕ) → p < 256 → get_or l.table p (pos 0) ≡ get_or l.initial.table p (pos 0) +ℤ l.weight *ℤ one_if (is_member (take l.member-index l.members) p)
