use Rattle.proof_laws.proofs.Growing.{first-box}
use Rattle.proof_laws.proofs.cover.first_box_holds_all.Goals as goal

pub returns : goal.returns
returns c = first-box
