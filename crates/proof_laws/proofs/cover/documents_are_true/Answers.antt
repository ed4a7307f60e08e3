use Rattle.proof_laws.proofs.Sound.{says-document}
use Rattle.proof_laws.proofs.cover.documents_are_true.Goals as goal

pub returns : goal.returns
returns c = says-document
