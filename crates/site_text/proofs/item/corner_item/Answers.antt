use Rattle.std.specs.Option.{option_copied}
use Rattle.site_text.specs.declared.keyword.Keyword.TheVariants.{Corner}
use Rattle.cable_text.specs.Words.{rest_parts}
use Rattle.site_text.proofs.Saying.{stray, said_corner}
use Rattle.site_text.proofs.item.corner_item.Goals as goal

pub returns-in-Some : goal.returns-in-Some
returns-in-Some c = λ version. said_corner version (rest_parts (option_copied c.args.rest)) c.in-Some.x.now c.in-Some.y.now c.in-Some.ensures.words c.in-Some.ensures.full c.number_of.ensures c.number_of-in-Some.ensures

pub returns-in-None : goal.returns-in-None
returns-in-None c = λ version. stray version Corner (rest_parts (option_copied c.args.rest)) c.in-None.ensures.none
