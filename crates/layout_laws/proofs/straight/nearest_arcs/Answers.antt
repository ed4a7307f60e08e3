use Rattle.layout_laws.proofs.Nearest.{Least-nearest}
use Rattle.layout_laws.proofs.LeastOut.{some_nearest, IsNearest-same}
use Rattle.layout_laws.proofs.straight.nearest_arcs.Goals as goal

pub returns-clause-least : goal.returns-clause-least
returns-clause-least c = Least-nearest

pub returns-clause-exists : goal.returns-clause-exists
returns-clause-exists c = some_nearest

pub returns-clause-unique : goal.returns-clause-unique
returns-clause-unique c = IsNearest-same
