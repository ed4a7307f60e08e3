use Rattle.search_core.proofs.Seeing.{closed-there, spent-there}
use Rattle.search_core.proofs.machine.Search.ended.Goals as goal

pub returns-clause-closed : goal.returns-clause-closed
returns-clause-closed g c = closed-there _ _ _ c.self.view_is c.requires.running.searching c.ended.ensures.closed

pub returns-clause-spent : goal.returns-clause-spent
returns-clause-spent g c = spent-there _ _ _ c.self.view_is c.requires.running.searching c.ended.ensures.spent
