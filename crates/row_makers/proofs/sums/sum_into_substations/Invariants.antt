use Rattle.std.proofs.Common.{◌≡◌, ◌≤◌, ◌*◌}
use Rattle.row_makers.specs.Sums.{ends_in_substation}
use Rattle.row_makers.proofs.Upto.{sum_upto}
use Rattle.row_makers.proofs.sums.sum_into_substations.Given as goal

abbrev pub invariant-loop-a : goal.invariant-loop-a
invariant-loop-a l = record {
  total_is : l.total ≡ sum_upto (ends_in_substation l.site) l.arcs l.shares l.a;
  small : l.total ≤ l.a * 1048576;
}
