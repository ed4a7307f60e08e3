use Rattle.std.proofs.Common.{arith}
use Rattle.std.specs.Int.{w128}
use Rattle.std.proofs.lemmas.Int.{ints, to_z-of_z}
use Rattle.site_text.proofs.Held.{read_within, read_beyond}
use Rattle.site_text.proofs.item.number_of.Goals as goal

pub returns-in-Ok : goal.returns-in-Ok
returns-in-Ok c = rw (to_z-of_z w128 c.in-Ok.value (omega (arith, ints))) (read_within c.args.word.now c.in-Ok.value c.in-Ok.ensures.ok (omega (arith, ints, c.in-Ok.ensures.within.0)) (omega (arith, ints, c.in-Ok.ensures.within.1)))

pub returns-in-Err-Over : goal.returns-in-Err-Over
returns-in-Err-Over c = let o = c.in-Err-Over.ensures.over c.in-Err-Over.field-0-is in read_beyond c.args.word.now o.0 o.1 o.2
