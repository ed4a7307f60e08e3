-- How often a maker was called.
use Rattle.std.specs.Prelude.{◌≡◌, ℕ, zero, suc, ◌+◌, ◌≤◌, ◌<◌, ◌⊎◌, List, length, sum_by, Bool, true, false}
use Rattle.cable_definitions.specs.Row.{Row}
use Rattle.stored_makers.specs.Makers.{Maker, one_more}

-- one more so many times, up to 2 ^ 64 - 1
abbrev pub more : ℕ → ℕ → ℕ
more n zero = n
more n (suc k) = one_more (more n k)

-- there may be no room for one more row of at most 256 members
abbrev pub IsNearlyFull : List Row → Type 0
IsNearlyFull rows = (16384 ≤ length rows) ⊎ (1048576 < sum_by (λ r. length r.members) rows + 256)

-- one call answered: a row that was listed, or none, or one for which there was no room
abbrev pub IsOneCall : {F : Type 0} → Maker F → Maker F → List Row → List Row → Bool → Type 0
IsOneCall old new before after true = (new.calls ≡ one_more old.calls) × (new.made ≡ one_more old.made) × (length after ≡ length before + 1)
IsOneCall old new before after false = (new.calls ≡ one_more old.calls) × ((new.made ≡ old.made) ⊎ ((new.made ≡ one_more old.made) × IsNearlyFull after))

-- so many calls answered, a row each, and each row was listed
pub record AreCalls {F : Type 0} (old new : Maker F) (before after : List Row) (count : ℕ) : Type 0 where
  pub calls : new.calls ≡ more old.calls count
  pub made : new.made ≡ more old.made count
  pub listed : length after ≡ length before + count

-- The maker answered one to four calls, each with a row but for the last. Where the rows aren't nearly full afterwards, either four calls answered or the
-- last one had no row, and each row that was made is listed; where they are nearly full, each but the last at least is.
pub record IsCalled {F : Type 0} (old new : Maker F) (before after : List Row) : Type 0 where
  pub calls : ℕ
  pub made : ℕ
  pub some : 1 ≤ calls
  pub most : calls ≤ 4
  pub answered : new.calls ≡ more old.calls calls
  pub rows_made : new.made ≡ more old.made made
  pub nearly_each : (made ≡ calls) ⊎ (made + 1 ≡ calls)
  pub room : ¬ (IsNearlyFull after) → ((calls ≡ 4) ⊎ (made + 1 ≡ calls)) × (length before + made ≤ length after)
  pub full : IsNearlyFull after → length before + made ≤ length after + 1
