-- Shares that are handed to a maker of rows.
use Rattle.std.specs.Prelude.{◌≡◌, ℕ, ◌*◌, ◌/◌, List, length, slice_get, Some}

-- as many shares, and each is three quarters of the one in its place, rounded down
pub record AreReduced (shares reduced : List ℕ) : Type 0 where
  pub one_each : length reduced ≡ length shares
  pub three_quarters : (a share : ℕ) → slice_get shares a ≡ Some share → slice_get reduced a ≡ Some (3 * share / 4)
