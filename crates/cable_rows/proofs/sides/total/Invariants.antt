use Rattle.std.proofs.Common.{◌≡◌, ◌≤◌, ◌*◌, sum_by, take}
use Rattle.cable_rows.specs.Sides.{amount_of}
use Rattle.cable_rows.proofs.sides.total.Given as goal

abbrev pub invariant-loop-member : goal.invariant-loop-member
invariant-loop-member l = record {
  sum : l.total ≡ sum_by (amount_of l.site l.amount) (take l.member-index l.members);
  small : l.total ≤ 300000 * l.member-index;
}
