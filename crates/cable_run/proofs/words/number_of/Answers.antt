use Rattle.std.proofs.Common.{◌≡◌, ◌∙◌, pos, arith}
use Rattle.std.specs.Int.{w128}
use mir.Val.{to_z, of_z}
use Rattle.std.proofs.lemmas.Int.{ints, to_z-of_z}
use Rattle.cable_run.proofs.Asked.{no_number}
use Rattle.cable_run.proofs.words.number_of.Goals as goal

pub returns-in-Err-clause-none : goal.returns-in-Err-clause-none
returns-in-Err-clause-none c =
    let low : to_z w128 (of_z w128 c.from.result) ≡ pos c.args.least = to_z-of_z w128 c.from.result (omega (arith, ints, c.from.ensures)) ∙ c.from.ensures in
    let high : to_z w128 (of_z w128 c.from-2.result) ≡ pos c.args.most = to_z-of_z w128 c.from-2.result (omega (arith, ints, c.from-2.ensures)) ∙ c.from-2.ensures in
    no_number c.args.word.now c.args.least c.args.most _ _ c.in-Err.field-0 low high (omega arith) (c.in-Err.ensures.not_decimal, c.in-Err.ensures.over)
