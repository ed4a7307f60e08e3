use Rattle.std.proofs.Common.{pos, arith}
use Rattle.std.proofs.lemmas.Int.{ints}
use Rattle.line_words.proofs.Ranges.{beyond_range}
use Rattle.line_words.proofs.number.count_in.Goals as goal

pub returns-in-Other-clause-none : goal.returns-in-Other-clause-none
returns-in-Other-clause-none c = beyond_range c.args.number (pos c.args.least) (pos c.args.most) c.in-Other.is (omega (arith, ints)) (omega (arith, ints, c.ranges.most))
