use Rattle.std.proofs.Common.{pos, arith}
use Rattle.std.specs.Prelude.{neg_ℤ}
use Rattle.std.proofs.lemmas.Int.{ints}
use Rattle.line_words.proofs.Ranges.{beyond_range}
use Rattle.line_words.proofs.number.weight_of.Goals as goal

pub returns-in-Other-clause-none : goal.returns-in-Other-clause-none
returns-in-Other-clause-none c = beyond_range c.args.number (neg_ℤ (pos 75557863725914323419136)) (pos 75557863725914323419136) c.in-Other.is (omega (arith, ints)) (omega (arith, ints))
