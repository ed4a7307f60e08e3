use Rattle.cable_definitions.specs.declared.claim.Claim.TheVariants.{Optimal}
use Rattle.proof_laws.proofs.Sound.{says-document}
use Rattle.proof_laws.proofs.cover.optimal_documents_are_true.Goals as goal

pub returns-clause-reached : goal.returns-clause-reached
returns-clause-reached c = λ bytes s best y. let layout = y.agrees.0 in (y.cables, layout.0, layout.1)

pub returns-clause-least : goal.returns-clause-least
returns-clause-least c = λ bytes s best y. says-document bytes s (Optimal best) y
