use Rattle.std.proofs.Common.{◌≡◌, ◌≤◌, ◌*◌, sum_by}
use Rattle.cable_definitions.specs.Arcs.{power_of}
use Rattle.row_makers.specs.Tried.{points_below}
use Rattle.row_makers.proofs.capacity.total_power.Given as goal

abbrev pub invariant-loop-p : goal.invariant-loop-p
invariant-loop-p l = record {
  total_is : l.total ≡ sum_by (power_of l.site) (points_below l.site l.p);
  small : l.total ≤ 1000 * l.p;
}
