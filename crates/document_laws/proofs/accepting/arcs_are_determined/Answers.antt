use Rattle.document_laws.proofs.ArcsOnce.{arcs-same}
use Rattle.document_laws.proofs.accepting.arcs_are_determined.Goals as goal

pub returns : goal.returns
returns c = arcs-same
