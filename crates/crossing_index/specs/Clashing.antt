-- The arcs that clash with an arc.
use Rattle.std.specs.Prelude.{◌≡◌, ℕ, ◌<◌, List, length, All, AllPairs, Contains, slice_get, Some}
use Rattle.cable_definitions.specs.declared.cable.Arc.{Arc}
use Rattle.cable_definitions.specs.Site.{Site}
use Rattle.cable_definitions.specs.Layout.{PairsClash}

-- a site and its candidate arcs
pub record SiteArcs : Type 0 where
  pub site : Site
  pub arcs : List Arc

-- arcs number m and n join different unordered pairs of points, and their segments clash
pub record ArcsClash (s : Site) (arcs : List Arc) (m n : ℕ) : Type 0 where
  pub first : Arc
  pub second : Arc
  pub first_is : slice_get arcs m ≡ Some first
  pub second_is : slice_get arcs n ≡ Some second
  pub clash : PairsClash s first.from first.to second.from second.to

-- the numbers below count of the arcs that clash with arc number m, ascending
pub record AreClashingBelow (s : Site) (arcs : List Arc) (m count : ℕ) (numbers : List ℕ) : Type 0 where
  pub ascending : AllPairs (λ k n. k < n) numbers
  pub below : All (λ n. n < count) numbers
  pub clash : All (λ n. ArcsClash s arcs m n) numbers
  pub all : (n : ℕ) → n < count → ArcsClash s arcs m n → Contains numbers n

-- the numbers of the arcs that clash with arc number m, ascending
abbrev pub AreClashing : Site → List Arc → ℕ → List ℕ → Type 0
AreClashing s arcs m numbers = AreClashingBelow s arcs m (length arcs) numbers
