use Rattle.proof_laws.proofs.Sound.{sound-accepted, none-sound}
use Rattle.proof_laws.proofs.cover.dead_leaves_leave_none.Goals as goal

pub returns : goal.returns
returns c = λ s arcs n items kept valid are accepted dead. none-sound s arcs kept (sound-accepted s arcs n items kept valid are accepted) dead
