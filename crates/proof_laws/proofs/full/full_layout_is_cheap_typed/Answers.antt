use Rattle.proof_laws.proofs.FullNodes.{full-cheap, full-legal, full-one}
use Rattle.proof_laws.proofs.full.full_layout_is_cheap_typed.Goals as goal

pub returns-clause-cheapest : goal.returns-clause-cheapest
returns-clause-cheapest c = λ s arcs marks full f. (full-cheap s arcs marks full f, f.legal)

pub returns-clause-full : goal.returns-clause-full
returns-clause-full c = full-legal

pub returns-clause-one : goal.returns-clause-one
returns-clause-one c = full-one
