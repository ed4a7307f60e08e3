use Rattle.search_laws.proofs.Ending.{settled-known}
use Rattle.search_laws.proofs.ends.stopped_and_full_nodes_are_beaten.Goals as goal

pub returns : goal.returns
returns c = settled-known
