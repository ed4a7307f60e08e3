use Rattle.std.specs.Option.{option_copied}
use Rattle.site_text.specs.declared.keyword.Keyword.TheVariants.{Site}
use Rattle.cable_text.specs.Words.{rest_parts}
use Rattle.site_text.proofs.Saying.{stray, said_version}
use Rattle.site_text.proofs.item.version_item.Goals as goal

pub returns-in-Some : goal.returns-in-Some
returns-in-Some c = λ version. said_version version (rest_parts (option_copied c.args.rest)) c.in-Some.word.now c.in-Some.ensures.words c.in-Some.ensures.full c.number_of.ensures

pub returns-in-None : goal.returns-in-None
returns-in-None c = λ version. stray version Site (rest_parts (option_copied c.args.rest)) c.in-None.ensures.none
