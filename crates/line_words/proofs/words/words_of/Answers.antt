use Rattle.line_words.proofs.Splits.{cut_full, cut_empty}
use Rattle.line_words.proofs.words.words_of.Goals as goal

pub returns-then-are_full : goal.returns-then-are_full
returns-then-are_full c = cut_full c.args.text.now c.requires (c.are_full.ensures.0 c.if-are_full.true)

pub returns : goal.returns
returns c = cut_empty c.args.text.now (λ full. let yes = c.are_full.ensures.1 full in let no = c.if-are_full.false in cc)
