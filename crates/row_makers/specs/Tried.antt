-- Sets of points that are tried, and what their power asks for.
use Rattle.std.specs.Prelude.{◌≡◌, ℕ, zero, suc, ◌-◌, ◌*◌, ◌^◌, ◌<◌, ◌⊎◌, List, [], ◌∷◌, ◌++◌, length, sum_by, true, cond}
use Rattle.cable_definitions.specs.declared.cable.Arc.{Arc}
use Rattle.cable_definitions.specs.Site.{Site}
use Rattle.cable_definitions.specs.Arcs.{kind_of, is_turbine, is_substation, power_of, largest_capacity}
use Rattle.cable_definitions.specs.Row.{rounded_up}
use Rattle.bound_shares.specs.Shares.{leaving_shares}

-- the turbines and bends among the first points, ascending
abbrev pub points_below : Site → ℕ → List ℕ
points_below s zero = []
points_below s (suc n) = cond (is_substation (kind_of s n)) (points_below s n) (points_below s n ++ n ∷ [])

-- the turbines and bends, ascending
abbrev pub turbines_and_bends : Site → List ℕ
turbines_and_bends s = points_below s (length s.points)

-- how much more shares the `Cut` of these points asks for than those that leave them; 0 where they are enough
abbrev pub missing : Site → List Arc → List ℕ → List ℕ → ℕ
missing s arcs shares members = 2 ^ 20 * rounded_up (sum_by (power_of s) members) (largest_capacity s) - leaving_shares members arcs shares

-- one turbine
pub record IsTurbine (s : Site) (members : List ℕ) : Type 0 where
  pub point : ℕ
  pub turbine : is_turbine (kind_of s point) ≡ true
  pub members_are : members ≡ point ∷ []

-- two turbines, ascending
pub record AreTwoTurbines (s : Site) (members : List ℕ) : Type 0 where
  pub first : ℕ
  pub second : ℕ
  pub ascending : first < second
  pub first_turbine : is_turbine (kind_of s first) ≡ true
  pub second_turbine : is_turbine (kind_of s second) ≡ true
  pub members_are : members ≡ first ∷ second ∷ []

-- one turbine, two turbines, or all turbines and bends
abbrev pub IsTried : Site → List ℕ → Type 0
IsTried s members = (IsTurbine s members ⊎ AreTwoTurbines s members) ⊎ (members ≡ turbines_and_bends s)
