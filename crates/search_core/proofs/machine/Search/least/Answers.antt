use Rattle.search_core.proofs.Seeing.{least-there, dead-there}
use Rattle.search_core.proofs.machine.Search.least.Goals as goal

pub returns-clause-some : goal.returns-clause-some
returns-clause-some g c = least-there _ _ c.least.result c.self.view_is c.least.ensures.some

pub returns-clause-none : goal.returns-clause-none
returns-clause-none g c = dead-there _ _ c.least.result c.self.view_is c.least.ensures.none
