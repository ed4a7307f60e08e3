use Rattle.search_laws.proofs.Starting.{first-core}
use Rattle.search_laws.proofs.start.searches_begin.Goals as goal

pub returns : goal.returns
returns c = first-core
