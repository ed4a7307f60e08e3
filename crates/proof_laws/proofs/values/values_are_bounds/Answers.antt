use Rattle.proof_laws.proofs.Weights.{value-le}
use Rattle.proof_laws.proofs.values.values_are_bounds.Goals as goal

pub returns : goal.returns
returns c = value-le
