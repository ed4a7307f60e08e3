-- A number of 128 bits is spelled as it is printed.
use Rattle.std.proofs.Common.{◌∙◌, arith, rules, FitsSigned}
use Rattle.std.specs.Int.{w128}
use Rattle.std.proofs.lemmas.Int.{ints, to_z-of_z}
use Rattle.cable_text.proofs.Reading.{spelling-number}
use Rattle.cable_text.proofs.number.read_number.Goals as goal

pub returns-else-most-value-clause-ok : goal.returns-else-most-value-clause-ok
returns-else-most-value-clause-ok c =
    let z = c.in-Value.value in
    let fits : FitsSigned w128 z = search rules in
    rw (to_z-of_z w128 z fits) (c.in-Value.ensures ∙ spelling-number z (omega (arith, ints)) (omega (arith, ints)))
