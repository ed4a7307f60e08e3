-- The straight layout beside an incumbent.
use Rattle.std.proofs.Common.{◌≡◌, ℕ, ◌≤◌, ◌⊎◌, inl, inr, List, Option, Some, None, sym, subst, ap, arith}
use Rattle.std.specs.Prelude.{IfSome, IfNone}
use Rattle.cable_definitions.specs.declared.cable.Cable.{Cable}
use Rattle.cable_definitions.specs.Site.{Site}
use Rattle.cable_definitions.specs.Layout.{IsLegal, cost}
use Rattle.cable_definitions.specs.Part.{IsStraight}
use Rattle.layout_laws.proofs.Straightest.{one_straight}
use Rattle.start_layout.specs.declared.starting.Incumbent.{Incumbent}
use Rattle.start_layout.specs.Starting.{IsIncumbent, IsLegalAtMost}

-- what isn't legal asks for nothing
pub within_where_illegal : (s : Site) (straight : Option (List Cable)) (incumbent : Option Incumbent) → IfSome straight (λ cables. ¬ (IsLegal s cables))
    → IfSome straight (λ cables. IsLegal s cables → IsLegalAtMost (cost s cables) incumbent)
within_where_illegal s None incumbent h = tt
within_where_illegal s (Some cables) incumbent h = λ l. absurd (h l)

-- what costs no more than a judged layout is within its cost
pub within_judged : (s : Site) (straight : Option (List Cable)) (judged least : Incumbent) → IsIncumbent s judged → IfSome straight (λ cables. judged.layout ≡ cables) → least.cost ≤ judged.cost
    → IfSome straight (λ cables. IsLegal s cables → IsLegalAtMost (cost s cables) (Some least))
within_judged s None judged least is same h = tt
within_judged s (Some cables) judged least is same h = λ l.
    let e : cost s judged.layout ≡ cost s cables = ap (cost s) same in
    omega (arith, h, is.cost_is, e)

-- the cheaper of two incumbents is one
pub one_of_two : (s : Site) (incumbent : Option Incumbent) (other least : Incumbent) → IfSome incumbent (IsIncumbent s) → IsIncumbent s other → ((least ≡ other) ⊎ (incumbent ≡ Some least)) → IsIncumbent s least
one_of_two s incumbent other least h is (inl e) = subst (IsIncumbent s) (sym e) is
one_of_two s incumbent other least h is (inr e) = subst (λ (o : Option Incumbent). IfSome o (IsIncumbent s)) e h

-- what is known of the straight layout that was made is known of each
pub at_straight : (s : Site) (made : Option (List Cable)) (straight : List Cable) (P : ℕ → Type 0) → IfSome made (IsStraight s) → IfNone made ((cables : List Cable) → ¬ (IsStraight s cables))
    → IfSome made (λ cables. IsLegal s cables → P (cost s cables)) → IsStraight s straight → IsLegal s straight → P (cost s straight)
at_straight s None straight P some none h is l = absurd (none straight is)
at_straight s (Some cables) straight P some none h is l =
    let same = one_straight s cables straight some is in
    subst (λ (xs : List Cable). IsLegal s xs → P (cost s xs)) same h l
