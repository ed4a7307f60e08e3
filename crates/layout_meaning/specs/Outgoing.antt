-- The first cable out of each point, at hand.
use Rattle.std.specs.Prelude.{◌≡◌, ℕ, ◌<◌, List, length, Option, None}
use Rattle.std.specs.List.{slice_index_or}
use Rattle.cable_definitions.specs.declared.cable.Cable.{Cable}
use Rattle.cable_definitions.specs.Walk.{cable_out}

-- at each number below 256 stands the first cable that starts there, or none
pub record AreFirst (cables : List Cable) (first : List (Option Cable)) : Type 0 where
  pub room : length first ≡ 256
  pub at : (p : ℕ) → p < 256 → slice_index_or first p None ≡ cable_out cables p
