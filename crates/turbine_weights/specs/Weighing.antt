-- Weights of turbines on the way, row by row.
use Rattle.std.specs.Prelude.{◌≡◌, ◌≢◌, ℕ, ◌≤◌, ◌<◌, ℤ, Bool, true, false, List, length, count_by, slice_get, slice_index_or, Some, All, AllPairs, Any}
use Rattle.cable_definitions.specs.declared.cable.Arc.{Arc}
use Rattle.cable_definitions.specs.declared.row.Mark.{Mark}
use Rattle.cable_definitions.specs.Site.{Site}
use Rattle.cable_definitions.specs.Row.{Row}
use Rattle.turbine_weights.specs.Turbines.{out_row, IsLeastLeft, IsFirstRow, IsTurbineWeight}

-- The weights on the rows below n, and a table of the turbines of these rows, which tells as many as there are weights or more.
pub record AreWeighed (s : Site) (arcs : List Arc) (rows : List Row) (marks : List Mark) (n : ℕ) (weighed : List Bool) (weights : List (ℕ × ℤ)) : Type 0 where
  pub size : length weighed ≡ 256
  pub count : length weights ≤ count_by (λ told. told) weighed
  pub told : (p : ℕ) → slice_index_or weighed p false ≡ true → (i : ℕ) × (i < n) × (slice_get rows i ≡ Some (out_row p))
  pub not_told : (p : ℕ) → slice_index_or weighed p false ≡ false → (i : ℕ) → i < n → slice_get rows i ≢ Some (out_row p)
  pub ascending : AllPairs (λ v w. v.0 < w.0) weights
  pub below : All (λ w. w.0 < n) weights
  pub are_weights : All (λ w. IsTurbineWeight s arcs rows marks w.0 w.1) weights
  pub each : (p r cost : ℕ) → r < n → IsFirstRow rows p r → IsLeastLeft s arcs marks p cost → cost ≢ 0 → Any (λ w. w.0 ≡ r) weights
