-- The set that misses most so far.
use Rattle.std.specs.Prelude.{◌≡◌, ℕ, ◌≤◌, ◌<◌, List, [], ◌∷◌, true}
use Rattle.cable_definitions.specs.declared.cable.Arc.{Arc}
use Rattle.cable_definitions.specs.Site.{Site}
use Rattle.cable_definitions.specs.Arcs.{kind_of, is_turbine}
use Rattle.row_makers.specs.declared.capacity.Tried.{Tried}
use Rattle.row_makers.specs.declared.capacity.Tried.TheVariants.{Turbine, Pair, Whole}
use Rattle.row_makers.specs.declared.capacity.Most.{Most}
use Rattle.row_makers.specs.Tried.{turbines_and_bends, missing, IsTried}

-- the points of a set
abbrev pub tried_members : Site → Tried → List ℕ
tried_members s (Turbine p) = p ∷ []
tried_members s (Pair p q) = p ∷ q ∷ []
tried_members s Whole = turbines_and_bends s

-- the set may be tried: its points are turbines, and two ascend
abbrev pub MayTry : Site → Tried → Type 0
MayTry s (Turbine p) = is_turbine (kind_of s p) ≡ true
MayTry s (Pair p q) = (p < q) × (is_turbine (kind_of s p) ≡ true) × (is_turbine (kind_of s q) ≡ true)
MayTry s Whole = Unit

-- a set that may be tried, with what it misses
pub record IsMost (s : Site) (arcs : List Arc) (shares : List ℕ) (most : Most) : Type 0 where
  pub may : MayTry s most.set
  pub missing_is : most.missing ≡ missing s arcs shares (tried_members s most.set)

-- no set of turbines below n misses more, nor does the whole set
pub record IsMostBelow (s : Site) (arcs : List Arc) (shares : List ℕ) (n : ℕ) (most : Most) : Type 0 where
  pub is_one : IsMost s arcs shares most
  pub whole : missing s arcs shares (turbines_and_bends s) ≤ most.missing
  pub one : (q : ℕ) → q < n → is_turbine (kind_of s q) ≡ true → missing s arcs shares (q ∷ []) ≤ most.missing
  pub two : (q p : ℕ) → q < n → p < q → is_turbine (kind_of s p) ≡ true → is_turbine (kind_of s q) ≡ true → missing s arcs shares (p ∷ q ∷ []) ≤ most.missing

-- no set that is tried misses more
pub record IsMostOfAll (s : Site) (arcs : List Arc) (shares : List ℕ) (most : Most) : Type 0 where
  pub is_one : IsMost s arcs shares most
  pub all : (members : List ℕ) → IsTried s members → missing s arcs shares members ≤ most.missing
