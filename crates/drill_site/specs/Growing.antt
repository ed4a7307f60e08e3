-- Sites so far on the way to a generated one.
use Rattle.std.specs.Prelude.{◌≡◌, ◌≢◌, ℕ, zero, suc, ◌+◌, ◌*◌, ◌/◌, ◌%◌, ◌≤◌, ◌⊎◌, ℤ, pos, neg_ℤ, ◌<ℤ◌, List, [], ◌∷◌, ◌++◌, codes}
use Rattle.std.specs.Fmt.{decimal}
use Rattle.cable_definitions.specs.declared.place.Place.{Place}
use Rattle.cable_definitions.specs.declared.site.Version.TheVariants.{One}
use Rattle.cable_definitions.specs.declared.site.Mode.TheVariants.{Tree}
use Rattle.cable_definitions.specs.declared.site.CableType.{CableType}
use Rattle.cable_definitions.specs.declared.site.Kind.{Kind}
use Rattle.cable_definitions.specs.declared.site.Kind.TheVariants.{Turbine, Substation}
use Rattle.cable_definitions.specs.declared.site.Point.{Point}
use Rattle.cable_definitions.specs.Items.{Draft}
use Rattle.cable_definitions.specs.Drill.{IsPointAt, IsDrawn, IsPlaceAt, AreLastPoints, AreDrillCorners, draw, state_after}

-- the types of a generated site
abbrev pub drill_types : List CableType
drill_types = record { capacity = 30; price = 100; loss = 0 } ∷ record { capacity = 60; price = 170; loss = 0 } ∷ record { capacity = 90; price = 240; loss = 0 } ∷ []

-- a site so far in which nothing stands yet
abbrev pub begun : Draft
begun = record {
  stage = 2;
  site = record { version = One; mode = Tree; types = []; points = []; obstacles = []; pairs = [] };
  corners = [];
  missing = 0;
}

-- a site so far that takes points: its types stand, and no obstacle or pair rule does
pub record TakesPoints (d : Draft) : Type 0 where
  pub stage : d.stage ≤ 3
  pub version : d.site.version ≡ One
  pub mode : d.site.mode ≡ Tree
  pub types : d.site.types ≡ drill_types
  pub obstacles : d.site.obstacles ≡ []
  pub pairs : d.site.pairs ≡ []
  pub missing : d.missing ≡ 0

-- the point has neither this name nor the place of these coordinates
pub record IsApart (name : List ℕ) (x y : ℤ) (p : Point) : Type 0 where
  pub name_differs : p.name ≢ name
  pub place_differs : ¬ (IsPlaceAt p.at x y)

-- the site so far has one point more, with this name, these coordinates and this kind
pub record Gains (d : Draft) (name : List ℕ) (x y : ℤ) (kind : Kind) (e : Draft) : Type 0 where
  pub p : Point
  pub point : IsPointAt p name x y kind
  pub becomes : e ≡ record d { stage = 3; site = record d.site { points = d.site.points ++ p ∷ [] } }

-- the two substations
abbrev pub AreSubstations : Point → Point → Type 0
AreSubstations s0 s1 =
    IsPointAt s0 (codes "S0") (neg_ℤ (pos 2000)) (pos 0) (Substation 16 3000) × IsPointAt s1 (codes "S1") (pos 12000) (pos 0) (Substation 16 3000)

-- so many turbines from number i on, drawn from this state, and the state after them
abbrev pub AreDrawnTo : ℕ → ℕ → ℕ → ℕ → List Point → Type 0
AreDrawnTo zero i state end [] = end ≡ state
AreDrawnTo zero i state end (p ∷ points) = ⊥
AreDrawnTo (suc n) i state end [] = ⊥
AreDrawnTo (suc n) i state end (p ∷ points) = IsDrawn i state p × AreDrawnTo n (i + 1) (state_after 3 state) end points

-- the two substations and so many turbines, drawn from the state k, and the state after them
abbrev pub AreFirst : ℕ → ℕ → ℕ → List Point → Type 0
AreFirst k n end (s0 ∷ s1 ∷ points) = AreSubstations s0 s1 × AreDrawnTo n 0 k end points
AreFirst k n end points = ⊥

-- the two substations and so many turbines, which were drawn from some state up to this one
abbrev pub HasFirst : ℕ → ℕ → List Point → Type 0
HasFirst n end points = (k : ℕ) × AreFirst k n end points

-- the site so far has turbine i more, drawn from this state
abbrev pub GainsTurbine : Draft → ℕ → ℕ → Draft → Type 0
GainsTurbine d i state e =
    Gains d (codes "T" ++ decimal i) (pos (1000 * (i % 10) + draw 401 state)) (pos (1000 * (i / 10) + draw 401 (state_after 1 state))) (Turbine (8 + draw 5 (state_after 2 state))) e

-- the points have the four bends more
abbrev pub GainsBends : List Point → List Point → Type 0
GainsBends points more = (bends : List Point) × AreLastPoints bends × (more ≡ points ++ bends)

-- the point stands west or east of the obstacle
abbrev pub IsBeside : Point → Type 0
IsBeside p = (p.at.x <ℤ pos 4500) ⊎ (pos 4900 <ℤ p.at.x)

-- the site so far has the obstacle more, complete
abbrev pub GainsSquare : Draft → Draft → Type 0
GainsSquare d e = (corners : List Place) × AreDrillCorners corners × (e ≡ record d { stage = 4; site = record d.site { obstacles = d.site.obstacles ++ corners ∷ [] }; corners = []; missing = 0 })
