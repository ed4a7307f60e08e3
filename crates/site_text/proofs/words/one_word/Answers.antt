use Rattle.std.proofs.Common.{◌∙◌, sym}
use Rattle.site_text.proofs.Fields.{rest_some, rest_none}
use Rattle.site_text.proofs.words.one_word.Goals as goal

pub returns-in_default-clause-none : goal.returns-in_default-clause-none
returns-in_default-clause-none c = c.in_default.ensures.none 0

pub returns-then-is_some-clause-none : goal.returns-then-is_some-clause-none
returns-then-is_some-clause-none c = c.in-Some.ensures.full 0 ∙ rest_some c.in-Some.rest (sym c.is_some.ensures ∙ c.if-is_some.true)

pub returns-else-is_some-clause-full : goal.returns-else-is_some-clause-full
returns-else-is_some-clause-full c = c.in-Some.ensures.full 0 ∙ rest_none c.in-Some.rest (sym c.is_some.ensures ∙ c.if-is_some.false)
