use Rattle.search_laws.proofs.Ending.{least-capped, least_small, unworked_small}
use Rattle.search_laws.proofs.ends.least_bounds_are_small.Goals as goal

pub returns-clause-capped : goal.returns-clause-capped
returns-clause-capped c = least-capped

pub returns-clause-least : goal.returns-clause-least
returns-clause-least c = least_small

pub returns-clause-unworked : goal.returns-clause-unworked
returns-clause-unworked c = unworked_small
