use Rattle.proof_laws.proofs.Rising.{bounds-stay}
use Rattle.proof_laws.proofs.cover.bounds_never_fall.Goals as goal

pub returns : goal.returns
returns c = bounds-stay
