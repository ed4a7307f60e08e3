use Rattle.std.proofs.Common.{◌∙◌}
use Rattle.site_text.proofs.words.two_words.Goals as goal

pub returns-in_default-clause-none : goal.returns-in_default-clause-none
returns-in_default-clause-none c = c.in_default.ensures.none 1

pub returns-clause-full : goal.returns-clause-full
returns-clause-full c = c.in-Some.ensures.full 1 ∙ c.in-Some-one_word.ensures.full
