use Rattle.proof_laws.proofs.DeadNodes.{none-dead}
use Rattle.proof_laws.proofs.reasons.dead_boxes_are_empty.Goals as goal

pub returns : goal.returns
returns c = none-dead
