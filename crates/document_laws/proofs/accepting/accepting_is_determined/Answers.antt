use Rattle.document_laws.proofs.Accepted.{accept-same}
use Rattle.document_laws.proofs.accepting.accepting_is_determined.Goals as goal

pub returns : goal.returns
returns c = accept-same
