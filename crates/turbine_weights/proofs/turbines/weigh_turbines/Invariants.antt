use Rattle.turbine_weights.specs.Weighing.{AreWeighed}
use Rattle.turbine_weights.proofs.turbines.weigh_turbines.Given as goal

abbrev pub invariant-loop-row : goal.invariant-loop-row
invariant-loop-row l = AreWeighed l.site l.arcs l.pool l.decisions l.row l.weighed l.weights
