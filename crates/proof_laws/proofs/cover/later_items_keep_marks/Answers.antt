use Rattle.proof_laws.proofs.Growing.{marks-later}
use Rattle.proof_laws.proofs.cover.later_items_keep_marks.Goals as goal

pub returns : goal.returns
returns c = marks-later
