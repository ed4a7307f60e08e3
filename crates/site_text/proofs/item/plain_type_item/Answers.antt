use Rattle.std.specs.Option.{option_copied}
use Rattle.cable_definitions.specs.declared.site.Version.TheVariants.{One}
use Rattle.site_text.specs.declared.keyword.Keyword.TheVariants.{CableType}
use Rattle.cable_text.specs.Words.{rest_parts}
use Rattle.site_text.proofs.Saying.{stray, said_plain_type}
use Rattle.site_text.proofs.item.plain_type_item.Goals as goal

pub returns-in-Some : goal.returns-in-Some
returns-in-Some c = said_plain_type (rest_parts (option_copied c.args.rest)) c.in-Some.capacity.now c.in-Some.price.now c.in-Some.ensures.words c.in-Some.ensures.full c.number_of.ensures c.number_of-in-Some.ensures

pub returns-in-None : goal.returns-in-None
returns-in-None c = stray One CableType (rest_parts (option_copied c.args.rest)) c.in-None.ensures.none
