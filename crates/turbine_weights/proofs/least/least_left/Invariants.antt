use Rattle.std.proofs.Common.{◌≤◌, IfSome}
use Rattle.site_model.specs.Best.{most_cost}
use Rattle.turbine_weights.proofs.LeastLeft.{IsLeastBelow}
use Rattle.turbine_weights.proofs.least.least_left.Given as goal

abbrev pub invariant-loop-number : goal.invariant-loop-number
invariant-loop-number l = record {
  least : IsLeastBelow l.site l.arcs l.decisions l.fn.p l.number l.least;
  small : IfSome l.least (λ cost. cost ≤ most_cost);
}
