use Rattle.layout_laws.proofs.Straightest.{some_straight, one_straight}
use Rattle.layout_laws.proofs.straight.straight_layout.Goals as goal

pub returns-clause-exists : goal.returns-clause-exists
returns-clause-exists c = some_straight

pub returns-clause-unique : goal.returns-clause-unique
returns-clause-unique c = one_straight
