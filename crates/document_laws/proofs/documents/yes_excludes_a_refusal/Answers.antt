use Rattle.document_laws.proofs.Yes.{yes-stands}
use Rattle.document_laws.proofs.documents.yes_excludes_a_refusal.Goals as goal

pub returns : goal.returns
returns c = yes-stands
