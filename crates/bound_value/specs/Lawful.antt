-- A weight that may stand on a row.
use Rattle.std.specs.Prelude.{◌≡◌, ◌≢◌, ℕ, ◌≤◌, ◌<◌, ◌^◌, ℤ, pos, ◌≤ℤ◌, unsigned_abs, List, length, slice_get, Some, IsTrue}
use Rattle.cable_definitions.specs.Row.{Row, is_equation}

-- the row is listed, and the weight isn't 0, is at most 2 ^ 76 in absolute value, and isn't negative unless the row is an equation
pub record IsLawfulWeight (rows : List Row) (row : ℕ) (weight : ℤ) : Type 0 where
  pub listed : row < length rows
  pub not_zero : weight ≢ pos 0
  pub small : unsigned_abs weight ≤ 2 ^ 76
  pub sign : (r : Row) → slice_get rows row ≡ Some r → ¬ (IsTrue (is_equation r.kind)) → pos 0 ≤ℤ weight
