use Rattle.turbine_weights.proofs.FirstNode.{turbine_weights-nearest, turbine_weights-out}
use Rattle.turbine_weights.proofs.laws.all_free_weights_reach_the_nearest.Goals as goal

pub returns-clause-nearest : goal.returns-clause-nearest
returns-clause-nearest c = turbine_weights-nearest

pub returns-clause-out : goal.returns-clause-out
returns-clause-out c = turbine_weights-out
