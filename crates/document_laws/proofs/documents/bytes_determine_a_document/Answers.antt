use Rattle.document_laws.proofs.Yes.{yes-same, refused-same}
use Rattle.document_laws.proofs.documents.bytes_determine_a_document.Goals as goal

pub returns-clause-yes : goal.returns-clause-yes
returns-clause-yes c = yes-same

pub returns-clause-refusal : goal.returns-clause-refusal
returns-clause-refusal c = λ bytes base line there cause other h k. let same = refused-same bytes base line there cause other h k in (same.lines, same.causes)
