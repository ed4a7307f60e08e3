use Rattle.std.proofs.Common.{◌≡◌, ℕ, length, take, false, get_or}
use Rattle.cable_definitions.specs.Row.{is_member}
use Rattle.cable_rows.proofs.pool.table_of.Given as goal

abbrev pub invariant-loop-member : goal.invariant-loop-member
invariant-loop-member l = record {
  size : length l.has ≡ 256;
  told : (p : ℕ) → get_or l.has p false ≡ is_member (take l.member-index l.members) p;
}
