use Rattle.std.specs.Option.{option_copied}
use Rattle.site_text.specs.declared.keyword.Keyword.TheVariants.{Substation}
use Rattle.cable_text.specs.Words.{rest_parts}
use Rattle.site_text.proofs.Saying.{stray, said_substation}
use Rattle.site_text.proofs.item.substation_item.Goals as goal

pub returns-in-Some : goal.returns-in-Some
returns-in-Some c = λ version. said_substation version (rest_parts (option_copied c.args.rest)) c.in-Some.name c.in-Some.x.now c.in-Some.y.now c.in-Some.feeders.now c.in-Some.power.now c.in-Some.ensures.words c.in-Some.ensures.full c.number_of.ensures c.number_of-in-Some.ensures c.number_of-in-Some-2.ensures c.number_of-in-Some-3.ensures

pub returns-in-None : goal.returns-in-None
returns-in-None c = λ version. stray version Substation (rest_parts (option_copied c.args.rest)) c.in-None.ensures.none
