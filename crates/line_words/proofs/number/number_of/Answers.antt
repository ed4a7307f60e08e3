use Rattle.std.proofs.Common.{arith}
use Rattle.std.specs.Int.{w128}
use Rattle.std.proofs.lemmas.Int.{ints, to_z-of_z}
use Rattle.line_words.proofs.Ranges.{small_read}
use Rattle.line_words.proofs.number.number_of.Goals as goal

pub returns-in-Ok-clause-some : goal.returns-in-Ok-clause-some
returns-in-Ok-clause-some c =
    rw (to_z-of_z w128 c.in-Ok.value (omega (arith, ints, c.in-Ok.ensures.within.0, c.in-Ok.ensures.within.1)))
    (small_read c.args.word.now c.in-Ok.value c.in-Ok.ensures.ok c.in-Ok.ensures.within.0 c.in-Ok.ensures.within.1)
