use Rattle.proof_laws.proofs.Sound.{bound-of_node, sound-accepted}
use Rattle.proof_laws.proofs.cover.bounds_hold_in_boxes.Goals as goal

pub returns : goal.returns
returns c = λ s arcs n items kept valid are accepted v node made. bound-of_node s arcs kept (sound-accepted s arcs n items kept valid are accepted) v node made
