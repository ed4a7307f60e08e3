use Rattle.proof_laws.proofs.WorkCounts.{works-left, works-below}
use Rattle.proof_laws.proofs.budgets.works_stay_within_enough.Goals as goal

pub returns-clause-together : goal.returns-clause-together
returns-clause-together c = works-left

pub returns-clause-below : goal.returns-clause-below
returns-clause-below c = works-below
