use Rattle.proof_laws.proofs.Rising.{bounds-first, bounds-nearest}
use Rattle.proof_laws.proofs.cover.first_values_hold.Goals as goal

pub returns-clause-reached : goal.returns-clause-reached
returns-clause-reached c = bounds-first

pub returns-clause-nearest : goal.returns-clause-nearest
returns-clause-nearest c = bounds-nearest
