use Rattle.start_layout.specs.Straight.{IsBestWayBelow}
use Rattle.start_layout.proofs.straight.straight_cable.Given as goal

abbrev pub invariant-loop-to : goal.invariant-loop-to
invariant-loop-to l = IsBestWayBelow l.site l.from l.to l.best
