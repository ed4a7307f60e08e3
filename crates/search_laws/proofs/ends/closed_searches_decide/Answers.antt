use Rattle.search_laws.proofs.Ending.{closed-least, closed-dead}
use Rattle.search_laws.proofs.ends.closed_searches_decide.Goals as goal

pub returns-clause-known : goal.returns-clause-known
returns-clause-known c = closed-least

pub returns-clause-unknown : goal.returns-clause-unknown
returns-clause-unknown c = closed-dead
