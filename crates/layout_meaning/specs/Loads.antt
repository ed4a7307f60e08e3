-- The loads of the cables out of all points.
use Rattle.std.specs.Prelude.{◌≡◌, ℕ, ◌+◌, ◌≤◌, ◌<◌, List, length, slice_index, Bool, false, cond, ◌||◌, ◌==◌}
use Rattle.std.specs.List.{slice_index_or}
use Rattle.cable_definitions.specs.declared.cable.Cable.{Cable}
use Rattle.cable_definitions.specs.Site.{Site, IsValid}
use Rattle.cable_definitions.specs.Walk.{load, passes}

-- the site is valid, and at the number of each point stands the load of the cable out of it
pub record AreLoads (s : Site) (cables : List Cable) (loads : List ℕ) : Type 0 where
  pub valid : IsValid s
  pub room : length loads ≡ 256
  pub at : (p : ℕ) → p < length s.points → slice_index loads p ≡ load s cables p
  pub small : (p : ℕ) → p < length s.points → slice_index loads p ≤ 256000

-- at each number below 256 stands what the base has there, and the power more where it's marked
pub record IsTally (base : List ℕ) (power : ℕ) (met : List Bool) (loads : List ℕ) : Type 0 where
  pub room : length loads ≡ 256
  pub marks : length met ≡ 256
  pub at : (p : ℕ) → p < 256 → slice_index loads p ≡ slice_index base p + cond (slice_index_or met p false) power 0

-- besides what was marked before, this number is
abbrev pub Marks : ℕ → List Bool → List Bool → Type 0
Marks at old new = (p : ℕ) → p < 256 → slice_index_or new p false ≡ (slice_index_or old p false || at == p)

-- each number below 256 that the walk of t passes has the power more
abbrev pub AddsAlong : List Cable → ℕ → ℕ → List ℕ → List ℕ → Type 0
AddsAlong cables t power old new = (p : ℕ) → p < 256 → slice_index new p ≡ slice_index old p + cond (passes cables p t) power 0
