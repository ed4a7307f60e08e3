use Rattle.proof_laws.proofs.Costs.{cost-ceiling}
use Rattle.proof_laws.proofs.DeadNodes.{none-ceiling}
use Rattle.proof_laws.proofs.reasons.no_layout_above_ceiling.Goals as goal

pub returns-clause-cost : goal.returns-clause-cost
returns-clause-cost c = cost-ceiling

pub returns-clause-dead : goal.returns-clause-dead
returns-clause-dead c = λ s arcs rows marks bound are holds d. none-ceiling s arcs marks bound are holds d
