use Rattle.proof_laws.proofs.NearestValue.{value-nearest}
use Rattle.proof_laws.proofs.values.values_reach_nearest.Goals as goal

pub returns : goal.returns
returns c = value-nearest
