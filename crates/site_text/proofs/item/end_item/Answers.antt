use Rattle.std.specs.Option.{option_copied}
use Rattle.site_text.specs.declared.keyword.Keyword.TheVariants.{End}
use Rattle.cable_text.specs.Words.{rest_parts}
use Rattle.site_text.proofs.Saying.{stray, stray_end, said_end}
use Rattle.site_text.proofs.item.end_item.Goals as goal

pub returns-in_default : goal.returns-in_default
returns-in_default c = λ version. stray version End (rest_parts (option_copied c.args.rest)) c.in_default.ensures.none

pub returns-then-is_word : goal.returns-then-is_word
returns-then-is_word c = λ version. said_end version (rest_parts (option_copied c.args.rest)) c.in-Some.word.now c.in-Some.ensures.words c.in-Some.ensures.full (c.is_word.ensures.0 c.if-is_word.true)

pub returns-else-is_word : goal.returns-else-is_word
returns-else-is_word c = λ version. stray_end version (rest_parts (option_copied c.args.rest)) c.in-Some.word.now c.in-Some.ensures.words (λ e. let yes = c.is_word.ensures.1 e in let not_it = c.if-is_word.false in cc)
