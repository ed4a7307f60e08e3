use Rattle.turbine_weights.proofs.LeastLeft.{mark_left}
use Rattle.turbine_weights.proofs.least.cost_left.Goals as goal

pub returns-clause-left : goal.returns-clause-left
returns-clause-left c = mark_left c.args.decisions.now c.args.number c.mark.result c.mark.ensures c.in_default.not-Unused
