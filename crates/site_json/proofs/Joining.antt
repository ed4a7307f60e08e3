-- The items of a list are those of its parts, one after another.
use Rattle.std.proofs.Common.{◌≡◌, List, [], ◌∷◌, ◌++◌, refl, sym, ap, ◌∙◌, append_assoc}
use Rattle.serde_json.specs.Data.{Data}
use Rattle.serde_json.specs.Find.{as_array}
use Rattle.serde_json.specs.View.{items_of}
use Rattle.cable_definitions.specs.declared.site.Version.{Version}
use Rattle.cable_definitions.specs.Items.{RawItem}
use Rattle.run_definitions.specs.Json.{raw_type, raw_types, raw_point, raw_points, corner_of, raw_corners, raw_obstacle, raw_obstacles, raw_pair, raw_pairs}
use Rattle.site_json.proofs.Leading.{Joins}

-- the corners of an obstacle, from a list
abbrev pub corners_of : List Data → List RawItem
corners_of ds = raw_corners (items_of ds)

types_joined : (version : Version) (xs ys : List Data) → raw_types version (xs ++ ys) ≡ raw_types version xs ++ raw_types version ys
types_joined version [] ys = refl
types_joined version (x ∷ xs) ys = ap (λ (zs : List RawItem). raw_type version x ∷ zs) (types_joined version xs ys)

points_joined : (xs ys : List Data) → raw_points (xs ++ ys) ≡ raw_points xs ++ raw_points ys
points_joined [] ys = refl
points_joined (x ∷ xs) ys = ap (λ (zs : List RawItem). raw_point x ∷ zs) (points_joined xs ys)

corners_joined : (xs ys : List Data) → corners_of (xs ++ ys) ≡ corners_of xs ++ corners_of ys
corners_joined [] ys = refl
corners_joined (x ∷ xs) ys = ap (λ (zs : List RawItem). corner_of (as_array x) x ∷ zs) (corners_joined xs ys)

obstacles_joined : (xs ys : List Data) → raw_obstacles (xs ++ ys) ≡ raw_obstacles xs ++ raw_obstacles ys
obstacles_joined [] ys = refl
obstacles_joined (x ∷ xs) ys = ap (λ (zs : List RawItem). raw_obstacle (as_array x) ++ zs) (obstacles_joined xs ys) ∙ sym (append_assoc (raw_obstacle (as_array x)) (raw_obstacles xs) (raw_obstacles ys))

pairs_joined : (xs ys : List Data) → raw_pairs (xs ++ ys) ≡ raw_pairs xs ++ raw_pairs ys
pairs_joined [] ys = refl
pairs_joined (x ∷ xs) ys = ap (λ (zs : List RawItem). raw_pair x ∷ zs) (pairs_joined xs ys)

pub joins_types : (version : Version) → Joins (raw_types version)
joins_types version = record { none = refl; joined = types_joined version }

pub joins_points : Joins raw_points
joins_points = record { none = refl; joined = points_joined }

pub joins_corners : Joins corners_of
joins_corners = record { none = refl; joined = corners_joined }

pub joins_obstacles : Joins raw_obstacles
joins_obstacles = record { none = refl; joined = obstacles_joined }

pub joins_pairs : Joins raw_pairs
joins_pairs = record { none = refl; joined = pairs_joined }
