use Rattle.std.proofs.Common.{pos, arith}
use Rattle.std.proofs.lemmas.Int.{ints}
use Rattle.line_words.proofs.Ranges.{beyond_range}
use Rattle.line_words.proofs.number.sum_in.Goals as goal

pub returns-in-Other-clause-none : goal.returns-in-Other-clause-none
returns-in-Other-clause-none c = beyond_range c.args.number (pos 0) (pos 9223372036854775807) c.in-Other.is (omega (arith, ints)) (omega (arith, ints))
