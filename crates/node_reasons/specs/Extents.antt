-- The least and the greatest that a row counts an arc as.
use Rattle.std.specs.Prelude.{◌≡◌, ℕ, ◌≤◌, ℤ, pos, ◌+ℤ◌, ◌*ℤ◌, ◌≤ℤ◌, neg_ℤ}

-- what an arc that is used counts as, at this load
abbrev pub used_value : ℤ → ℤ → ℕ → ℤ
used_value on_use on_load load = on_use *ℤ pos 1 +ℤ on_load *ℤ pos load

-- the value of a use at some load from low to high, related so to the value at each such load
pub record IsExtremeUse (Relates : ℤ → ℤ → Type 0) (on_use on_load : ℤ) (low high : ℕ) (extreme : ℤ) : Type 0 where
  pub at : ℕ
  pub at_least : low ≤ at
  pub at_most : at ≤ high
  pub reached : extreme ≡ used_value on_use on_load at
  pub none_beyond : (load : ℕ) → low ≤ load → load ≤ high → Relates extreme (used_value on_use on_load load)

-- a number is from -n to n
pub record IsUpTo (n : ℕ) (z : ℤ) : Type 0 where
  pub below : z ≤ℤ pos n
  pub above : neg_ℤ (pos n) ≤ℤ z
