-- `-` and digits that don't begin with `0` spell a number below zero, and other words with `-` spell nothing.
use Rattle.std.proofs.Common.{◌≡◌, negsuc, ◌-◌, ◌-ℤ◌, to_z, of_z, inl, sym, ap, ◌∙◌, arith, rules}
use Rattle.std.specs.Int.{w128}
use Rattle.std.proofs.lemmas.Int.{ints}
use Rattle.cable_definitions.specs.Numeral.{spelling}
use Rattle.cable_text.specs.Number.{IsNumeral, value_after}
use Rattle.cable_text.proofs.Reading.{nothing_negative, nothing_zero, spells_negative, value-positive}
use Rattle.cable_text.proofs.number.spelled_negative.Goals as goal

pub returns-then-not-is_numeral : goal.returns-then-not-is_numeral
returns-then-not-is_numeral c =
    let no : IsNumeral c.args.word.now → ⊥ = λ h. let t = c.is_numeral.ensures.1 h in cc in
    nothing_negative c.args.word.now no

pub returns-then-word-eq48 : goal.returns-then-word-eq48
returns-then-word-eq48 c = nothing_zero c.args.word.now (search rules)

pub returns-in_default : goal.returns-in_default
returns-in_default c =
    let is = c.is_numeral.ensures.0 cc in
    (negsuc (value_after 0 c.args.word.now - 1), spells_negative c.args.word.now is (search rules), inl (omega (arith, ints, c.in_default.ensures.large)))

pub returns-then-value : goal.returns-then-value
returns-then-value c =
    let is = c.is_numeral.ensures.0 cc in
    (negsuc (value_after 0 c.args.word.now - 1), spells_negative c.args.word.now is (search rules), inl (omega (arith, ints, c.in-Some.ensures.value)))

pub overflow_sub-result : goal.overflow_sub-result
overflow_sub-result c =
    let is = c.is_numeral.ensures.0 cc in
    omega (arith, c.in-Some.ensures.value, value-positive c.args.word.now is (search rules))

pub returns : goal.returns
returns c =
    let is = c.is_numeral.ensures.0 cc in
    let up = value-positive c.args.word.now is (search rules) in
    let e : to_z w128 (of_z w128 (negsuc 0 -ℤ to_z w128 (c.in-Some.value - 1))) ≡ negsuc (value_after 0 c.args.word.now - 1) = omega (arith, ints, c.in-Some.ensures.value) in
    spells_negative c.args.word.now is (search rules) ∙ ap spelling (sym e)
