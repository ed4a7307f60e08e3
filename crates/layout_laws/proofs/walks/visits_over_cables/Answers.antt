use Rattle.std.proofs.Common.{add-one}
use Rattle.layout_laws.proofs.Flow.{visits-flow}
use Rattle.layout_laws.proofs.walks.visits_over_cables.Goals as goal

pub returns : goal.returns
returns c = λ cables d p steps t. rw add-one (visits-flow cables d p steps t)
