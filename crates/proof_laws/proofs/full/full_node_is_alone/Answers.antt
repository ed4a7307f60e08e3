use Rattle.proof_laws.proofs.FullNodes.{full-used, full-uses, full-cost}
use Rattle.proof_laws.proofs.full.full_node_is_alone.Goals as goal

pub returns-clause-arcs : goal.returns-clause-arcs
returns-clause-arcs c = λ s arcs marks full cables are f g box k a e. (full-used s arcs marks full cables are f g box k a e, full-uses arcs marks cables box k a e)

pub returns-clause-cost : goal.returns-clause-cost
returns-clause-cost c = full-cost
