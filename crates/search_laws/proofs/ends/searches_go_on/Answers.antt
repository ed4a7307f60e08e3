use Rattle.search_laws.proofs.Wanting.{ends-or-goes_on, goes_on}
use Rattle.search_laws.proofs.ends.searches_go_on.Goals as goal

pub returns-clause-ends : goal.returns-clause-ends
returns-clause-ends c = ends-or-goes_on

pub returns-clause-goes_on : goal.returns-clause-goes_on
returns-clause-goes_on c = goes_on
