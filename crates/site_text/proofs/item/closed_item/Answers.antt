use Rattle.std.specs.Option.{option_copied}
use Rattle.site_text.specs.declared.keyword.Keyword.TheVariants.{Closed}
use Rattle.cable_text.specs.Words.{rest_parts}
use Rattle.site_text.proofs.Saying.{stray, said_closed}
use Rattle.site_text.proofs.item.closed_item.Goals as goal

pub returns-in-Some : goal.returns-in-Some
returns-in-Some c = λ version. said_closed version (rest_parts (option_copied c.args.rest)) c.in-Some.a c.in-Some.b c.in-Some.ensures.words c.in-Some.ensures.full

pub returns-in-None : goal.returns-in-None
returns-in-None c = λ version. stray version Closed (rest_parts (option_copied c.args.rest)) c.in-None.ensures.none
