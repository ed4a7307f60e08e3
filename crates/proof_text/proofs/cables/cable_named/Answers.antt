use Rattle.proof_text.proofs.Names.{no_start, no_finish}
use Rattle.proof_text.proofs.cables.cable_named.Goals as goal

pub returns-in_default-clause-none : goal.returns-in_default-clause-none
returns-in_default-clause-none c = λ z is d. no_start c.args.site.now c.args.from.now c.args.to.now z d c.in_default.ensures.none

pub returns-in_default-number_of-clause-none : goal.returns-in_default-number_of-clause-none
returns-in_default-number_of-clause-none c = λ z is d. no_finish c.args.site.now c.args.from.now c.args.to.now z d c.in_default-number_of.ensures.none
