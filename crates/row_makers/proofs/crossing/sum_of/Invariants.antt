use Rattle.std.proofs.Common.{◌≡◌, ◌≤◌, ◌*◌, take}
use Rattle.row_makers.proofs.Rivals.{sum_read}
use Rattle.row_makers.proofs.crossing.sum_of.Given as goal

abbrev pub invariant-loop-member : goal.invariant-loop-member
invariant-loop-member l = record {
  total_is : l.total ≡ sum_read l.shares (take l.member-index l.members);
  small : l.total ≤ l.member-index * 1048576;
}
