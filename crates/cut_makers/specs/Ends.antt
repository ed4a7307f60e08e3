-- Points where a flow may end.
use Rattle.std.specs.Prelude.{◌≡◌, ℕ, ◌≤◌, ◌<◌, List, length, slice_index_or, Bool, true, false}
use Rattle.cable_definitions.specs.declared.cable.Arc.{Arc}
use Rattle.cable_definitions.specs.Site.{Site}
use Rattle.cable_definitions.specs.Arcs.{kind_of, is_substation, is_turbine}
use Rattle.bound_shares.specs.Shares.{shares_where, leaves}
use Rattle.flow_laws.specs.Flow.{HasNoEnd}

-- whether a flow may end in a point
abbrev pub is_end : List Bool → ℕ → Bool
is_end ends p = slice_index_or ends p false

-- the set holds no substation
abbrev pub HasNoSubstation : Site → (ℕ → Bool) → Type 0
HasNoSubstation s inside = HasNoEnd (λ p. is_substation (kind_of s p)) inside

-- Each set with the point and no substation is left by shares that sum to at least this much.
abbrev pub IsLeftBy : Site → List Arc → List ℕ → ℕ → ℕ → Type 0
IsLeftBy s arcs shares least p = (inside : ℕ → Bool) → HasNoSubstation s inside → inside p ≡ true → least ≤ shares_where (leaves inside) arcs shares

-- A flow may end in each substation, and elsewhere only in points of which each set is left by at least this much.
pub record AreEnds (s : Site) (arcs : List Arc) (shares : List ℕ) (least : ℕ) (ends : List Bool) : Type 0 where
  pub size : length ends ≡ 256
  pub substations : (p : ℕ) → is_substation (kind_of s p) ≡ true → is_end ends p ≡ true
  pub others : (p : ℕ) → is_end ends p ≡ true → is_substation (kind_of s p) ≡ false → IsLeftBy s arcs shares least p

-- a turbine where no flow may end yet
pub record IsWaiting (s : Site) (ends : List Bool) (p : ℕ) : Type 0 where
  pub point : p < length s.points
  pub turbine : is_turbine (kind_of s p) ≡ true
  pub no_end : is_end ends p ≡ false
