use Rattle.proof_laws.proofs.Sound.{sound-accepted, least-sound}
use Rattle.proof_laws.proofs.cover.least_bound_holds.Goals as goal

pub returns : goal.returns
returns c = λ s arcs n items kept bound valid are accepted least. least-sound s arcs kept bound (sound-accepted s arcs n items kept valid are accepted) least
