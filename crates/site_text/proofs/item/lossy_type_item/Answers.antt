use Rattle.std.specs.Option.{option_copied}
use Rattle.cable_definitions.specs.declared.site.Version.TheVariants.{Two}
use Rattle.site_text.specs.declared.keyword.Keyword.TheVariants.{CableType}
use Rattle.cable_text.specs.Words.{rest_parts}
use Rattle.site_text.proofs.Saying.{stray, said_lossy_type}
use Rattle.site_text.proofs.item.lossy_type_item.Goals as goal

pub returns-in-Some : goal.returns-in-Some
returns-in-Some c = said_lossy_type (rest_parts (option_copied c.args.rest)) c.in-Some.capacity.now c.in-Some.price.now c.in-Some.loss.now c.in-Some.ensures.words c.in-Some.ensures.full c.number_of.ensures c.number_of-in-Some.ensures c.number_of-in-Some-2.ensures

pub returns-in-None : goal.returns-in-None
returns-in-None c = stray Two CableType (rest_parts (option_copied c.args.rest)) c.in-None.ensures.none
