-- Weights on the rows of the cables out of turbines.
use Rattle.std.specs.Prelude.{◌≡◌, ◌≢◌, ℕ, ◌*◌, ◌^◌, ℤ, pos, ◌≤ℤ◌, List, [], ◌∷◌, slice_get, Some, IsTrue}
use Rattle.cable_definitions.specs.declared.cable.Arc.{Arc}
use Rattle.cable_definitions.specs.declared.row.Mark.{Mark}
use Rattle.cable_definitions.specs.declared.row.Mark.TheVariants.{Unused}
use Rattle.cable_definitions.specs.declared.row.RowKind.TheVariants.{Out}
use Rattle.cable_definitions.specs.Site.{Site}
use Rattle.cable_definitions.specs.Arcs.{kind_of, is_turbine, power_of, cost_of, Bears}
use Rattle.cable_definitions.specs.Budget.{IsLeastOut}
use Rattle.cable_definitions.specs.Row.{Row, is_member, one_if, IsWellFormed}
use Rattle.cable_definitions.specs.Choice.{sum_weighted}

-- the sum of the weights on rows with the member p
abbrev pub weight_at : List Row → List (ℕ × ℤ) → ℕ → ℤ
weight_at rows weights p = sum_weighted (λ row. one_if (is_member row.members p)) rows weights

-- Weights on well-formed `Out` rows alone. Those on a turbine's rows sum to at least 2 ^ 20 times the least cost out of it, and to at most 2 ^ 20
-- times the cost of each arc out of it that isn't marked unused, at its own power under each type that bears it.
pub record AreOutWeights (s : Site) (arcs : List Arc) (rows : List Row) (marks : List Mark) (weights : List (ℕ × ℤ)) : Type 0 where
  pub listed : (i : ℕ) (w : ℕ × ℤ) → slice_get weights i ≡ Some w → (row : Row) × (slice_get rows w.0 ≡ Some row) × (row.kind ≡ Out) × IsWellFormed s arcs row
  pub enough : (p cost : ℕ) → IsTrue (is_turbine (kind_of s p)) → IsLeastOut s p cost → pos (2 ^ 20 * cost) ≤ℤ weight_at rows weights p
  pub not_above : (a grade : ℕ) (arc : Arc) (mark : Mark) → slice_get arcs a ≡ Some arc → slice_get marks a ≡ Some mark → mark ≢ Unused
      → IsTrue (is_turbine (kind_of s arc.from)) → Bears s grade (power_of s arc.from)
      → weight_at rows weights arc.from ≤ℤ pos (2 ^ 20 * cost_of s arc.from arc.to grade (power_of s arc.from))

-- One weight on the `Out` row of each turbine: 2 ^ 20 times the least cost out of it, where that isn't 0.
pub record AreNearestWeights (s : Site) (rows : List Row) (weights : List (ℕ × ℤ)) : Type 0 where
  pub listed : (i : ℕ) (w : ℕ × ℤ) → slice_get weights i ≡ Some w
      → (p cost : ℕ) × (slice_get rows w.0 ≡ Some (record { kind = Out; members = p ∷ [] })) × IsTrue (is_turbine (kind_of s p)) × IsLeastOut s p cost × (w.1 ≡ pos (2 ^ 20 * cost))
  pub once : (i j p : ℕ) (v w : ℕ × ℤ) → slice_get weights i ≡ Some v → slice_get weights j ≡ Some w
      → slice_get rows v.0 ≡ Some (record { kind = Out; members = p ∷ [] }) → slice_get rows w.0 ≡ Some (record { kind = Out; members = p ∷ [] }) → i ≡ j
  pub each : (p cost : ℕ) → IsTrue (is_turbine (kind_of s p)) → IsLeastOut s p cost → cost ≢ 0
      → (i : ℕ) × (w : ℕ × ℤ) × (slice_get weights i ≡ Some w) × (slice_get rows w.0 ≡ Some (record { kind = Out; members = p ∷ [] }))
