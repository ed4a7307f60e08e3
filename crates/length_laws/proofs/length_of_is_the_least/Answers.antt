use Rattle.plane_geometry.proofs.Lengths.{IsLength-length_of, same_length}
use Rattle.length_laws.proofs.length_of_is_the_least.Goals as goal

pub returns-clause-least : goal.returns-clause-least
returns-clause-least c = IsLength-length_of

pub returns-clause-single : goal.returns-clause-single
returns-clause-single c = same_length
