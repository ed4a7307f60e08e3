-- Weights of turbines: the least costs of the arcs out of them that a node leaves.
use Rattle.std.specs.Prelude.{◌≡◌, ◌≢◌, ℕ, ◌*◌, ◌^◌, ◌≤◌, ◌<◌, ℤ, pos, List, [], ◌∷◌, slice_get, Some, All, AllPairs, Any}
use Rattle.cable_definitions.specs.declared.cable.Arc.{Arc}
use Rattle.cable_definitions.specs.declared.row.Mark.{Mark}
use Rattle.cable_definitions.specs.declared.row.Mark.TheVariants.{Unused}
use Rattle.cable_definitions.specs.declared.row.RowKind.TheVariants.{Out}
use Rattle.cable_definitions.specs.Site.{Site}
use Rattle.cable_definitions.specs.Arcs.{power_of, cost_of, Bears}
use Rattle.cable_definitions.specs.Row.{Row}

-- the row on the cables out of turbine p
abbrev pub out_row : ℕ → Row
out_row p = record { kind = Out; members = p ∷ [] }

-- arc number a, which is this one, starts in p and isn't marked unused
pub record IsLeft (arcs : List Arc) (marks : List Mark) (p a : ℕ) (arc : Arc) : Type 0 where
  pub listed : slice_get arcs a ≡ Some arc
  pub start : arc.from ≡ p
  pub not_unused : slice_get marks a ≢ Some Unused

-- the least cost of an arc out of p that isn't marked unused, with p's own power as load, over the types that bear it
pub record IsLeastLeft (s : Site) (arcs : List Arc) (marks : List Mark) (p cost : ℕ) : Type 0 where
  pub a : ℕ
  pub arc : Arc
  pub grade : ℕ
  pub is_left : IsLeft arcs marks p a arc
  pub bears : Bears s grade (power_of s p)
  pub reached : cost ≡ cost_of s p arc.to grade (power_of s p)
  pub least : (b other : ℕ) (beside : Arc) → IsLeft arcs marks p b beside → Bears s other (power_of s p) → cost ≤ cost_of s p beside.to other (power_of s p)

-- row number r is the first on the cables out of turbine p
pub record IsFirstRow (rows : List Row) (p r : ℕ) : Type 0 where
  pub listed : slice_get rows r ≡ Some (out_row p)
  pub first : (i : ℕ) → slice_get rows i ≡ Some (out_row p) → r ≤ i

-- row number r is the first of a turbine, and its weight is 2 ^ 20 times the turbine's least cost, which isn't 0
pub record IsTurbineWeight (s : Site) (arcs : List Arc) (rows : List Row) (marks : List Mark) (r : ℕ) (weight : ℤ) : Type 0 where
  pub turbine : ℕ
  pub cost : ℕ
  pub row : IsFirstRow rows turbine r
  pub least : IsLeastLeft s arcs marks turbine cost
  pub some : cost ≢ 0
  pub value : weight ≡ pos (2 ^ 20 * cost)

-- such weights, ascending by their rows: one for each turbine with a listed row and a least cost that isn't 0
pub record AreTurbineWeights (s : Site) (arcs : List Arc) (rows : List Row) (marks : List Mark) (weights : List (ℕ × ℤ)) : Type 0 where
  pub ascending : AllPairs (λ v w. v.0 < w.0) weights
  pub are_weights : All (λ w. IsTurbineWeight s arcs rows marks w.0 w.1) weights
  pub each : (p r cost : ℕ) → IsFirstRow rows p r → IsLeastLeft s arcs marks p cost → cost ≢ 0 → Any (λ w. w.0 ≡ r) weights
