use Rattle.proof_laws.proofs.NearestValue.{value-same}
use Rattle.proof_laws.proofs.values.values_are_determined.Goals as goal

pub returns : goal.returns
returns c = value-same
