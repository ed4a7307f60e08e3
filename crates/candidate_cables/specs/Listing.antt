-- Lists of arcs on the way to all candidate arcs of a site.
use Rattle.std.specs.Prelude.{◌≡◌, ℕ, ◌+◌, ◌*◌, ◌≤◌, ◌<◌, ◌⊎◌, List, length, All, AllPairs, Any, slice_get}
use Rattle.cable_definitions.specs.declared.cable.Arc.{Arc}
use Rattle.cable_definitions.specs.Site.{Site}
use Rattle.cable_definitions.specs.Arcs.{IsCandidate, ArcBefore, length_between, charge_of}

-- a candidate arc of the site, with its length and its charge
pub record IsArc (s : Site) (a : Arc) : Type 0 where
  pub candidate : IsCandidate s a.from a.to
  pub metres : a.length ≡ length_between (slice_get s.points a.from) (slice_get s.points a.to)
  pub charged : a.charge ≡ charge_of s a.from a.to

-- the pair of from and to stands before that of p and q: by start, then by end
abbrev pub PairBefore : ℕ → ℕ → ℕ → ℕ → Type 0
PairBefore from to p q = (from < p) ⊎ ((from ≡ p) × (to < q))

-- some arc of the list joins these points
abbrev pub HasArc : List Arc → ℕ → ℕ → Type 0
HasArc arcs from to = Any (λ a. (a.from ≡ from) × (a.to ≡ to)) arcs

-- the candidate arcs that stand before the pair of p and q, in order; from one point come at most 255
pub record AreArcsBefore (s : Site) (p q : ℕ) (arcs : List Arc) : Type 0 where
  pub in_order : AllPairs ArcBefore arcs
  pub before : All (λ a. PairBefore a.from a.to p q) arcs
  pub are_arcs : All (IsArc s) arcs
  pub all_candidates : (from to : ℕ) → PairBefore from to p q → IsCandidate s from to → HasArc arcs from to
  pub count : length arcs ≤ p * 255 + q
  pub count_past_start : p < q → length arcs + 1 ≤ p * 255 + q

-- both ends of the arc are points of the site
pub record JoinsPoints (s : Site) (a : Arc) : Type 0 where
  pub from : a.from < length s.points
  pub to : a.to < length s.points
