use Rattle.std.proofs.Common.{arith, refl, ap, ◌∙◌, rules, w64, to_z, of_z}
use Rattle.std.specs.Prelude.{unsigned_abs}
use Rattle.std.specs.Int.{w128}
use Rattle.std.specs.Int.RustNames.{FitsSigned}
use Rattle.std.proofs.lemmas.Int.{to_z-of_z, to_z_pos}
use Rattle.fraction_laws.proofs.Cross.{same_from_parts}
use Rattle.bounded_fractions.specs.Value.{value_of}
use Rattle.bounded_fractions.specs.Wide.{wide_value}
use Rattle.bounded_fractions.proofs.Casts.{back64}
use Rattle.bounded_fractions.proofs.wide.WideFraction.fitted.Goals as goal

pub returns-then-unsigned_abs-gt-MOST-clause-none : goal.returns-then-unsigned_abs-gt-MOST-clause-none
unfolding wide_value
returns-then-unsigned_abs-gt-MOST-clause-none c =
    let f : FitsSigned w128 c.args.self.num = search rules in
    let e = c.unsigned_abs.ensures.value ∙ ap unsigned_abs (to_z-of_z w128 c.args.self.num f) in
    (λ _ h. let k = h.num in omega (arith, e, k, c.if-unsigned_abs-gt-MOST.true), λ _. refl)

pub returns-then-self-gt-MOST-clause-none : goal.returns-then-self-gt-MOST-clause-none
unfolding wide_value
returns-then-self-gt-MOST-clause-none c = (λ _ h. let k = h.den in omega (arith, k, c.if-self-gt-MOST.true), λ _. refl)

pub returns-clause-found : goal.returns-clause-found
unfolding value_of wide_value
returns-clause-found c =
    let f : FitsSigned w128 c.args.self.num = search rules in
    let e = c.unsigned_abs.ensures.value ∙ ap unsigned_abs (to_z-of_z w128 c.args.self.num f) in
    same_from_parts _ _ (ap (λ z. to_z w64 (of_z w64 z)) (to_z-of_z w128 c.args.self.num f) ∙ back64 c.args.self.num (omega (arith, e)))
    (ap unsigned_abs (to_z_pos w64 c.args.self.den (omega (arith, c.if-self-gt-MOST.false))))

pub returns-clause-none : goal.returns-clause-none
unfolding wide_value
returns-clause-none c =
    let f : FitsSigned w128 c.args.self.num = search rules in
    let e = c.unsigned_abs.ensures.value ∙ ap unsigned_abs (to_z-of_z w128 c.args.self.num f) in
    (λ wrong. cc, λ h. absurd (h record { num = omega (arith, e); den = omega arith }))
