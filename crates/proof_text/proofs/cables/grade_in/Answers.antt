use Rattle.std.proofs.Common.{inl, inr, subst, arith}
use Rattle.std.proofs.lemmas.Int.{ints}
use Rattle.line_words.specs.declared.number.Number.TheVariants.{Other}
use Rattle.line_words.specs.Numbers.{Is}
use Rattle.proof_text.proofs.cables.grade_in.Goals as goal

pub returns-in-Other-clause-none : goal.returns-in-Other-clause-none
returns-in-Other-clause-none c = λ z is g e lt.
    let k : Is Other z = subst (λ m. Is m z) c.in-Other.is is in
    let few = c.types.ensures.valid.types_count in
    elim k [ inl low ↦ absurd (omega (arith, ints, low, e)) | inr high ↦ absurd (omega (arith, ints, high, e, lt, few)) ]
