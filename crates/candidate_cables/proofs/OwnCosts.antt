-- The cost of an arc at the power of its start.
use Rattle.std.proofs.Common.{◌≡◌, ℕ, ◌≤◌, Option, Some, None, ap, sym, ◌∙◌, refl, subst}
use Rattle.std.specs.Prelude.{IfNone, IsSome}
use Rattle.cable_definitions.specs.declared.cable.Arc.{Arc}
use Rattle.cable_definitions.specs.Site.{Site}
use Rattle.cable_definitions.specs.Arcs.{Bears, IsCheapest, power_of, cost_of}
use Rattle.layout_laws.proofs.Typing.{cheapest-le}
use Rattle.candidate_cables.specs.OwnCosts.{IsOwnCost}

-- the cheapest type at the power of an arc's start makes its cost
pub own_cost : (s : Site) (arc : Arc) (power grade cost : ℕ) → power ≡ power_of s arc.from → IsCheapest s arc.from arc.to power grade
    → cost ≡ cost_of s arc.from arc.to grade power → IsOwnCost s arc cost
own_cost s arc power grade cost e h c = record {
  grade = grade;
  cheapest = subst (λ (load : ℕ). IsCheapest s arc.from arc.to load grade) e h;
  reached = c ∙ ap (cost_of s arc.from arc.to grade) e;
}

-- what can't be missing is there
pub is_some : {X : Type 0} → (o : Option X) (P : Type 0) → IfNone o P → (P → ⊥) → IsSome o
is_some None P h n = absurd (n h)
is_some (Some x) P h n = refl

-- for callers: no type that bears the power makes less
pub own_cost-least : (s : Site) (arc : Arc) (cost : ℕ) → (own : IsOwnCost s arc cost) → (other : ℕ) → Bears s other (power_of s arc.from) → cost ≤ cost_of s arc.from arc.to other (power_of s arc.from)
own_cost-least s arc cost own other b =
    subst (λ (n : ℕ). n ≤ cost_of s arc.from arc.to other (power_of s arc.from)) (sym own.reached) (cheapest-le s arc.from arc.to (power_of s arc.from) own.grade other own.cheapest b)
