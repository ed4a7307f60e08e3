use Rattle.proof_laws.proofs.TurbineWeights.{nearest-out, nearest-value}
use Rattle.proof_laws.proofs.values.nearest_weights_reach.Goals as goal

pub returns-clause-weights : goal.returns-clause-weights
returns-clause-weights c = nearest-out

pub returns-clause-value : goal.returns-clause-value
returns-clause-value c = nearest-value
