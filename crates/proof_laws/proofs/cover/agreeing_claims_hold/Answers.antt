use Rattle.proof_laws.proofs.Sound.{sound-accepted, says-sound}
use Rattle.proof_laws.proofs.cover.agreeing_claims_hold.Goals as goal

pub returns : goal.returns
returns c = λ s arcs n items kept cables claim valid are accepted agrees. says-sound s arcs n kept cables claim (sound-accepted s arcs n items kept valid are accepted) agrees
