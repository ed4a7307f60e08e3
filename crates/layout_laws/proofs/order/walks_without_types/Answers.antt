use Rattle.layout_laws.proofs.Alike.{walk-same, walk_end-same, passes-same, load-same, Starts-same}
use Rattle.layout_laws.proofs.order.walks_without_types.Goals as goal

pub returns-clause-walks : goal.returns-clause-walks
returns-clause-walks c = walk-same

pub returns-clause-ends : goal.returns-clause-ends
returns-clause-ends c = walk_end-same

pub returns-clause-passes : goal.returns-clause-passes
returns-clause-passes c = passes-same

pub returns-clause-loads : goal.returns-clause-loads
returns-clause-loads c = load-same

pub returns-clause-starts : goal.returns-clause-starts
returns-clause-starts c = Starts-same
