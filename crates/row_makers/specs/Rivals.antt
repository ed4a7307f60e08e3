-- Arcs that can't be together and have more shares than one cable.
use Rattle.std.specs.Prelude.{◌≡◌, ℕ, ◌+◌, ◌^◌, ◌≤◌, ◌<◌, List, length, All, Contains, slice_get, Some}
use Rattle.cable_definitions.specs.declared.cable.Arc.{Arc}
use Rattle.cable_definitions.specs.Site.{Site}
use Rattle.cable_definitions.specs.Row.{AreIncompatible}

-- arcs number a and b are incompatible, and their shares sum to more than 2 ^ 20
pub record AreRivals (s : Site) (arcs : List Arc) (shares : List ℕ) (a b : ℕ) : Type 0 where
  pub first : Arc
  pub second : Arc
  pub first_is : slice_get arcs a ≡ Some first
  pub second_is : slice_get arcs b ≡ Some second
  pub incompatible : AreIncompatible s first second
  pub first_share : ℕ
  pub second_share : ℕ
  pub first_share_is : slice_get shares a ≡ Some first_share
  pub second_share_is : slice_get shares b ≡ Some second_share
  pub too_much : 2 ^ 20 < first_share + second_share

-- the numbers below count of the arcs that have some share, where none has more than 2 ^ 20
pub record AreSharedBelow (shares : List ℕ) (count : ℕ) (shared : List ℕ) : Type 0 where
  pub range : All (λ a. a < length shares) shared
  pub small : (a u : ℕ) → a < count → slice_get shares a ≡ Some u → u ≤ 2 ^ 20
  pub all : (a u : ℕ) → a < count → slice_get shares a ≡ Some u → 1 ≤ u → Contains shared a

-- the numbers of the arcs that have some share
abbrev pub AreShared : List ℕ → List ℕ → Type 0
AreShared shares shared = AreSharedBelow shares (length shares) shared

-- where the arc has more than half a cable no other one is its rival
abbrev pub HasNoRival : Site → List Arc → List ℕ → ℕ → Type 0
HasNoRival s arcs shares a = (u b : ℕ) → slice_get shares a ≡ Some u → 2 ^ 19 < u → ¬ (AreRivals s arcs shares a b)
