use Rattle.layout_laws.proofs.Ending.{WalksEnd-from_rules}
use Rattle.layout_laws.proofs.Walking.{passes-next}
use Rattle.layout_laws.proofs.walks.walks_that_end.Goals as goal

pub returns-clause-ends : goal.returns-clause-ends
returns-clause-ends c = WalksEnd-from_rules

pub returns-clause-next : goal.returns-clause-next
returns-clause-next c = passes-next
