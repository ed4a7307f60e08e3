use Rattle.std.proofs.Common.{◌≤◌, ◌*◌, ◌^◌, unsigned_abs, take}
use Rattle.cable_definitions.specs.Choice.{AtMost, IsSumOfExtremes, reduced_cost}
use Rattle.cable_rows.specs.Sums.{AreNear, sets_of}
use Rattle.bound_value.proofs.value.least_choices.Given as goal

abbrev pub invariant-loop-number : goal.invariant-loop-number
invariant-loop-number l = record {
  sum : IsSumOfExtremes AtMost l.site (take l.number l.arcs) (take l.number l.decisions) (reduced_cost l.site l.pool l.weights) l.sum;
  small : unsigned_abs l.sum ≤ 10 ^ 30 * l.number;
  near : AreNear l.arcs l.pool (sets_of l.pool l.weights) l.at l.near;
}
