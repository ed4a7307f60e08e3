use Rattle.start_layout.proofs.Straightening.{AreStraightBelow}
use Rattle.start_layout.proofs.straight.straight_layout.Given as goal

abbrev pub invariant-loop-turbine : goal.invariant-loop-turbine
invariant-loop-turbine l = AreStraightBelow l.site l.turbine l.layout
