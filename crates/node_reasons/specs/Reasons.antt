-- Reasons why a node is dead.
use Rattle.std.specs.Prelude.{◌≡◌, ℕ, ◌≤◌, ◌<◌, List, length, slice_get, Some, IsTrue}
use Rattle.cable_definitions.specs.declared.cable.Cable.{Cable}
use Rattle.cable_definitions.specs.declared.cable.Arc.{Arc}
use Rattle.cable_definitions.specs.declared.row.Why.{Why}
use Rattle.cable_definitions.specs.declared.row.Why.TheVariants.{Row, Pair, Load, Loop, Power, Ceiling}
use Rattle.cable_definitions.specs.Site.{Site}
use Rattle.cable_definitions.specs.Arcs.{kind_of, is_substation, largest_capacity}
use Rattle.cable_definitions.specs.Walk.{walk_end, most_steps, load}
use Rattle.cable_definitions.specs.Layout.{Starts}
use Rattle.cable_definitions.specs.Row.{power_limit, AreIncompatible}

-- the arcs of these numbers are incompatible
pub record AreIncompatibleAt (s : Site) (arcs : List Arc) (a b : ℕ) : Type 0 where
  pub first : Arc
  pub second : Arc
  pub first_is : slice_get arcs a ≡ Some first
  pub second_is : slice_get arcs b ≡ Some second
  pub incompatible : AreIncompatible s first second

-- what passes p, which is no substation, is more than any cable bears
abbrev pub IsOverloaded : Site → ℕ → ℕ → Type 0
IsOverloaded s p load = (p < length s.points) × (¬ IsTrue (is_substation (kind_of s p))) × (largest_capacity s < load)

-- what passes p, which is a substation, is more than its power
abbrev pub IsOverpowered : Site → ℕ → ℕ → Type 0
IsOverpowered s p load = IsTrue (is_substation (kind_of s p)) × (power_limit (kind_of s p) < load)

-- a cable starts in p, and the walk from there returns to p
abbrev pub Returns : List Cable → ℕ → Type 0
Returns cables p = Starts cables p × ((k : ℕ) × (1 ≤ k) × (k ≤ most_steps) × (walk_end k cables p ≡ p))

-- the reason is true of the cables: some point is passed by more than it or its cable bears, or some walk returns
abbrev pub IsFlowReason : Site → List Cable → Why → Type 0
IsFlowReason s cables (Load p) = IsOverloaded s p (load s cables p)
IsFlowReason s cables (Loop p) = Returns cables p
IsFlowReason s cables (Power p) = IsOverpowered s p (load s cables p)
IsFlowReason s cables (Row r) = ⊥
IsFlowReason s cables (Pair a b) = ⊥
IsFlowReason s cables Ceiling = ⊥
