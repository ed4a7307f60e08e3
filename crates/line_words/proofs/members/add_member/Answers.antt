use Rattle.line_words.proofs.Spelled.{no_room}
use Rattle.line_words.proofs.members.add_member.Goals as goal

pub returns-in-Some-clause-none : goal.returns-in-Some-clause-none
returns-in-Some-clause-none c = no_room _ _ _ c.push.result c.push.ensures.at_most
