use Rattle.document_laws.proofs.Accepted.{row-stands, work-stands, claim-stands}
use Rattle.document_laws.proofs.accepting.accepted_is_not_refused.Goals as goal

pub returns-clause-row : goal.returns-clause-row
returns-clause-row c = λ s arcs n kept new row cause a. row-stands s arcs kept row new cause a

pub returns-clause-work : goal.returns-clause-work
returns-clause-work c = λ s arcs n kept new v weights act cause a. work-stands s arcs n kept v weights act new cause a

pub returns-clause-claim : goal.returns-clause-claim
returns-clause-claim c = claim-stands
