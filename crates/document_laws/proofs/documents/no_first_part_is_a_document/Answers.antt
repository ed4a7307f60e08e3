use Rattle.document_laws.proofs.Yes.{yes-whole}
use Rattle.document_laws.proofs.documents.no_first_part_is_a_document.Goals as goal

pub returns : goal.returns
returns c = yes-whole
