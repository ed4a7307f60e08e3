-- The search of a plan, as a run of the search's core.
use Rattle.std.specs.Prelude.{◌≡◌, ℕ, zero, suc, ◌⊎◌, List, [], ◌∷◌, ◌++◌, Option, Some, None, map}
use Rattle.cable_definitions.specs.declared.cable.Cable.{Cable}
use Rattle.cable_definitions.specs.declared.cable.Arc.{Arc}
use Rattle.cable_definitions.specs.declared.claim.Claim.{Claim}
use Rattle.cable_definitions.specs.declared.claim.Claim.TheVariants.{Optimal, Gap, Partial, Infeasible}
use Rattle.cable_definitions.specs.Site.{Site}
use Rattle.cable_definitions.specs.Part.{IsSettled}
use Rattle.cable_definitions.specs.Tree.{Item}
use Rattle.cable_definitions.specs.Core.{Core, Event, Take, Work, Found, Runs, IsClosed, IsSpent, first_core}

-- a layout is found, where there is one
abbrev pub found : Option (List Cable) → List Event
found None = []
found (Some cables) = Found cables ∷ []

-- the numbers below a count, ascending
abbrev pub numbers_below : ℕ → List ℕ
numbers_below zero = []
numbers_below (suc n) = numbers_below n ++ n ∷ []

-- one round: each lane takes a node, in order, and then each works its node, in order
abbrev pub round : ℕ → List Event
round lanes = map Take (numbers_below lanes) ++ map Work (numbers_below lanes)

-- no node is wanted and none is held, or the budget of works is spent while a node is wanted
abbrev pub IsOver : Site → ℕ → Core → Type 0
IsOver s n core = IsClosed s core ⊎ IsSpent s n core

-- so many rounds, each of which begins before the end, lead to the end
abbrev pub LeadToEnd : Site → List Arc → ℕ → ℕ → ℕ → Core → Core → Type 0
LeadToEnd s arcs n lanes zero old new = IsOver s n old × (new ≡ old)
LeadToEnd s arcs n lanes (suc rounds) old new = (¬ (IsOver s n old)) × ((mid : Core) × Runs s arcs n old (round lanes) mid × LeadToEnd s arcs n lanes rounds mid new)

-- What leads to the state with which a plan ends: a layout to begin with, where there is one; rounds to the end; and where the budget is spent and a
-- layout is known, a settled layout that may be cheaper.
pub record IsSearched (s : Site) (arcs : List Arc) (n lanes : ℕ) (core : Core) : Type 0 where
  pub start : Option (List Cable)
  pub begun : Core
  pub begins : Runs s arcs n (first_core s lanes) (found start) begun
  pub rounds : ℕ
  pub ended : Core
  pub leads : LeadToEnd s arcs n lanes rounds begun ended
  pub last : Option (List Cable)
  pub settled : (cables : List Cable) → last ≡ Some cables → IsSettled s cables
  pub ends : Runs s arcs n ended (found last) core

-- the claim is of a layout with a cost
abbrev pub IsOfLayout : Claim → Type 0
IsOfLayout (Optimal best) = Unit {0}
IsOfLayout (Gap best bound) = Unit {0}
IsOfLayout (Partial bound stuck) = ⊥
IsOfLayout Infeasible = ⊥

-- the items are those of the state with which such a search ends, and a layout with a cost is the one that is known there
pub record ComeFromSearch (s : Site) (arcs : List Arc) (n lanes : ℕ) (items : List Item) (cables : List Cable) (claim : Claim) : Type 0 where
  pub core : Core
  pub searched : IsSearched s arcs n lanes core
  pub items_are : core.items ≡ items
  pub known : IsOfLayout claim → core.known ≡ Some cables
