-- What holds of a site so far, whichever good items have led to it.
use Rattle.std.specs.Prelude.{◌≡◌, ◌≢◌, ℕ, ◌+◌, ◌≤◌, ◌<◌, List, [], length, IsTrue, sum_by, All, AllPairs, Option, Some, map, pos}
use Rattle.cable_definitions.specs.declared.place.Place.{Place}
use Rattle.cable_definitions.specs.declared.site.Version.{Version}
use Rattle.cable_definitions.specs.declared.site.Version.TheVariants.{One}
use Rattle.cable_definitions.specs.declared.site.Point.{Point}
use Rattle.cable_definitions.specs.declared.site.CableType.{CableType}
use Rattle.cable_definitions.specs.declared.site.PairRule.{PairRule}
use Rattle.cable_definitions.specs.declared.site.Pair.{Pair}
use Rattle.cable_definitions.specs.Naming.{IsName}
use Rattle.cable_definitions.specs.Plane.{SamePlace, IsOutside}
use Rattle.cable_definitions.specs.Site.{Site, version_number, latest_version, IsCableType, IsKind, IsObstacle, IsPair, joins}
use Rattle.cable_definitions.specs.Text.{name_of}
use Rattle.site_model.specs.Ruled.{IsPairTable}
use Rattle.cable_definitions.specs.Items.{Draft, RawItem, AVersion, AType, APoint, ACorner, APair, raw_kind, raw_rule}

-- at most 8 types, each in range
pub record TypesFit (version : Version) (types : List CableType) : Type 0 where
  pub count : length types ≤ 8
  pub each : All (IsCableType version) types

-- at most 256 points, each in range, with different names and different places
pub record PointsFit (points : List Point) : Type 0 where
  pub count : length points ≤ 256
  pub names : All (λ p. IsName p.name) points
  pub kinds : All (λ p. IsKind p.kind) points
  pub names_differ : AllPairs (λ p q. p.name ≢ q.name) points
  pub places_differ : AllPairs (λ p q. ¬ (SamePlace p.at q.at)) points

-- The complete obstacles are in range and every point is outside of each; there is room for the open one, of which some corners are missing.
pub record ObstaclesFit (points : List Point) (obstacles : List (List Place)) (corners : List Place) (missing : ℕ) : Type 0 where
  pub count : length obstacles ≤ 64
  pub each : All IsObstacle obstacles
  pub corners_count : sum_by length obstacles + length corners + missing ≤ 1024
  pub outside : All (λ o. All (λ p. IsOutside p.at o) points) obstacles
  pub room : 1 ≤ missing → length obstacles < 64
  pub enough : 1 ≤ missing → 3 ≤ length corners + missing

-- the pair rules are on two different points of the site, in range, and no unordered pair is ruled twice
pub record PairsFit (points : List Point) (pairs : List Pair) : Type 0 where
  pub each : All (IsPair points) pairs
  pub ruled_once : AllPairs (λ p q. ¬ IsTrue (joins p.a p.b q)) pairs

-- types come after the mode, points after some type, obstacles after the points, and pair rules after the obstacles
pub record StageFits (stage : ℕ) (site : Site) : Type 0 where
  pub no_types : stage ≤ 1 → site.types ≡ []
  pub some_types : 3 ≤ stage → 1 ≤ length site.types
  pub no_obstacles : stage ≤ 3 → site.obstacles ≡ []
  pub no_pairs : stage ≤ 4 → site.pairs ≡ []

-- the site so far keeps every fact of a valid site but that it has some type
pub record IsDraft (d : Draft) : Type 0 where
  pub version : version_number d.site.version ≤ latest_version
  pub types : TypesFit d.site.version d.site.types
  pub points : PointsFit d.site.points
  pub obstacles : ObstaclesFit d.site.points d.site.obstacles d.corners d.missing
  pub pairs : PairsFit d.site.points d.site.pairs
  pub order : StageFits d.stage d.site

-- a site so far, with room for the corners that are missing and for the obstacle that they complete, the table of its pair rules, and its points' names in order
pub record IsBuilder (d : Draft) (corners_room obstacles_room : ℕ) (rules : List (Option PairRule)) (names : List (List ℕ)) : Type 0 where
  pub draft : IsDraft d
  pub corners_fit : length d.corners + d.missing ≤ corners_room
  pub obstacle_fits : 1 ≤ d.missing → length d.site.obstacles < obstacles_room
  pub table : IsPairTable rules d.site.pairs
  pub numbered : names ≡ map (λ p. p.name) d.site.points

-- in version 1 a type has no loss
abbrev pub FitsVersion : Draft → RawItem → Type 0
FitsVersion d (AType capacity price loss) = d.site.version ≡ One → loss ≡ Some (pos 0)
FitsVersion d item = Unit {0}

-- the item of a version
abbrev pub item_of_version : Version → RawItem
item_of_version version = AVersion (Some (pos (version_number version)))

-- the item of a cable type
abbrev pub item_of_type : CableType → RawItem
item_of_type t = AType (Some (pos t.capacity)) (Some (pos t.price)) (Some (pos t.loss))

-- the item of a point
abbrev pub item_of_point : Point → RawItem
item_of_point p = APoint p.name (Some p.at.x) (Some p.at.y) (raw_kind p.kind)

-- the item of a corner
abbrev pub item_of_corner : Place → RawItem
item_of_corner corner = ACorner (Some corner.x) (Some corner.y)

-- the item of a pair rule
abbrev pub item_of_pair : Site → Pair → RawItem
item_of_pair s p = APair (name_of s p.a) (name_of s p.b) (raw_rule p.rule)
