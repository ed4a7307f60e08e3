use Rattle.search_laws.proofs.Ending.{closed-optimal, closed-infeasible, spent-agrees, spent-part}
use Rattle.search_laws.proofs.ends.ended_searches_claim.Goals as goal

pub returns-clause-optimal : goal.returns-clause-optimal
returns-clause-optimal c = closed-optimal

pub returns-clause-infeasible : goal.returns-clause-infeasible
returns-clause-infeasible c = closed-infeasible

pub returns-clause-gap : goal.returns-clause-gap
returns-clause-gap c = spent-agrees

pub returns-clause-partial : goal.returns-clause-partial
returns-clause-partial c = spent-part
