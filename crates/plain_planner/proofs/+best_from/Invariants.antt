use Rattle.std.proofs.Common.{◌≡◌, ◌-◌, length}
use Rattle.plain_planner.specs.Choices.{IsBestTried}
use Rattle.plain_planner.proofs.Best.{CompletesBelow}
use Rattle.plain_planner.proofs.+best_from.Given as goal

abbrev pub decreases-best_from : goal.decreases-best_from
decreases-best_from l = length l.site.now.points - l.p

abbrev pub invariant-loop-to : goal.invariant-loop-to
invariant-loop-to l = record {
  same : l.chosen.items ≡ l.fn.chosen.items;
  best : IsBestTried l.site (CompletesBelow l.site l.fn.chosen.items l.p l.to) l.best;
}
