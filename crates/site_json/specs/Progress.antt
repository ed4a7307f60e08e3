-- How far a site is that items have given.
use Rattle.std.specs.Prelude.{◌≡◌, ℕ, zero, suc, ◌+◌, ◌≤◌, length, sum_by, IsTrue}
use Rattle.cable_definitions.specs.Items.{Draft, is_settled}
use Rattle.site_model.specs.Drafts.{IsDraft}

-- how many items have given an obstacle that isn't complete, from its corners so far and those that are missing
abbrev pub open_items : ℕ → ℕ → ℕ
open_items corners zero = 0
open_items corners (suc missing) = corners + 1

-- how many items have given the lists so far
abbrev pub list_items : Draft → ℕ
list_items d =
    length d.site.types + length d.site.points + length d.site.obstacles + sum_by length d.site.obstacles + open_items (length d.corners) d.missing
    + length d.site.pairs

-- a site so far that this many items have given, with those of the version and the mode
pub record IsDraftAt (d : Draft) (placed : ℕ) : Type 0 where
  pub draft : IsDraft d
  pub counted : placed ≡ 2 + list_items d

-- types may come
pub record TakesTypes (d : Draft) (placed : ℕ) : Type 0 where
  pub is_placed : IsDraftAt d placed
  pub stage : d.stage ≡ 2
  pub complete : d.missing ≡ 0

-- what stands in the file up to this stage may come
pub record TakesUpTo (stage : ℕ) (d : Draft) (placed : ℕ) : Type 0 where
  pub is_placed : IsDraftAt d placed
  pub settled : IsTrue (is_settled d)
  pub at_most : d.stage ≤ stage

-- this many corners have to come
pub record TakesCorners (missing : ℕ) (d : Draft) (placed : ℕ) : Type 0 where
  pub is_placed : IsDraftAt d placed
  pub stage : d.stage ≡ 4
  pub some_types : 1 ≤ length d.site.types
  pub missing_is : d.missing ≡ missing
