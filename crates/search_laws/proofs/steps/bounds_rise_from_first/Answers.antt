use Rattle.search_laws.proofs.FirstNode.{above-first}
use Rattle.search_laws.proofs.steps.bounds_rise_from_first.Goals as goal

pub returns : goal.returns
returns c = above-first
