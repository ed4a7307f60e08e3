use Rattle.search_laws.proofs.Ending.{isolated-closed, isolated-dead}
use Rattle.search_laws.proofs.ends.isolated_turbines_end_searches.Goals as goal

pub returns-clause-closed : goal.returns-clause-closed
returns-clause-closed c = isolated-closed

pub returns-clause-dead : goal.returns-clause-dead
returns-clause-dead c = isolated-dead
