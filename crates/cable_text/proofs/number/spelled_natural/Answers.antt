-- Digits spell the number that they write, and other words without `-` spell nothing.
use Rattle.std.proofs.Common.{◌≡◌, pos, to_z, inr, sym, ap, ◌∙◌, arith}
use Rattle.std.specs.Int.{w128}
use Rattle.std.proofs.lemmas.Int.{ints}
use Rattle.cable_definitions.specs.Numeral.{spelling}
use Rattle.cable_text.specs.Number.{IsNumeral, value_after}
use Rattle.cable_text.proofs.Reading.{nothing_natural, spells_natural}
use Rattle.cable_text.proofs.number.spelled_natural.Goals as goal

pub returns-then-not-is_numeral : goal.returns-then-not-is_numeral
returns-then-not-is_numeral c =
    let no : IsNumeral c.args.word.now → ⊥ = λ h. let t = c.is_numeral.ensures.1 h in cc in
    nothing_natural c.args.word.now no c.requires

pub returns-in_default : goal.returns-in_default
returns-in_default c =
    let is = c.is_numeral.ensures.0 cc in
    (pos (value_after 0 c.args.word.now), spells_natural c.args.word.now is, inr (omega (arith, ints, c.in_default.ensures.large)))

pub returns-then-value-gt-MOST : goal.returns-then-value-gt-MOST
returns-then-value-gt-MOST c =
    let is = c.is_numeral.ensures.0 cc in
    (pos (value_after 0 c.args.word.now), spells_natural c.args.word.now is, inr (omega (arith, ints, c.in-Some.ensures.value)))

pub returns : goal.returns
returns c =
    let is = c.is_numeral.ensures.0 cc in
    let e : to_z w128 c.in-Some.value ≡ pos (value_after 0 c.args.word.now) = omega (arith, ints, c.in-Some.ensures.value) in
    spells_natural c.args.word.now is ∙ ap spelling (sym e)
