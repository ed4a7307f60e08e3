use Rattle.std.specs.Option.{option_copied}
use Rattle.site_text.specs.declared.keyword.Keyword.TheVariants.{Charge}
use Rattle.cable_text.specs.Words.{rest_parts}
use Rattle.site_text.proofs.Saying.{stray, said_charge}
use Rattle.site_text.proofs.item.charge_item.Goals as goal

pub returns-in-Some : goal.returns-in-Some
returns-in-Some c = λ version. said_charge version (rest_parts (option_copied c.args.rest)) c.in-Some.a c.in-Some.b c.in-Some.amount.now c.in-Some.ensures.words c.in-Some.ensures.full c.number_of.ensures

pub returns-in-None : goal.returns-in-None
returns-in-None c = λ version. stray version Charge (rest_parts (option_copied c.args.rest)) c.in-None.ensures.none
