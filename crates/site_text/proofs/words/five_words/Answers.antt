use Rattle.std.proofs.Common.{◌∙◌}
use Rattle.site_text.proofs.words.five_words.Goals as goal

pub returns-in_default-clause-none : goal.returns-in_default-clause-none
returns-in_default-clause-none c = c.in_default.ensures.none 4

pub returns-clause-full : goal.returns-clause-full
returns-clause-full c = c.in-Some.ensures.full 4 ∙ c.in-Some-four_words.ensures.full
