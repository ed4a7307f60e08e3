-- The text of a site from its parts, and of an obstacle from its corners.
use Rattle.std.proofs.Common.{◌≡◌, List, ℕ, [], ◌∷◌, ◌++◌, refl, map, length}
use Rattle.std.specs.Prelude.{codes}
use Rattle.std.specs.List.{concat}
use Rattle.std.specs.Fmt.{decimal}
use Rattle.cable_definitions.specs.declared.place.Place.{Place}
use Rattle.cable_definitions.specs.declared.site.Version.{Version}
use Rattle.cable_definitions.specs.declared.site.Mode.{Mode}
use Rattle.cable_definitions.specs.declared.site.Point.{Point}
use Rattle.cable_definitions.specs.declared.site.CableType.{CableType}
use Rattle.cable_definitions.specs.Site.{Site}
use Rattle.cable_definitions.specs.Text.{line, site_line, mode_line, type_line, point_line, corner_line, obstacle_lines, pair_line, site_lines}

-- the text of an obstacle, with its number of corners as a word
pub obstacle_text : (obstacle corners : List Place) (n : List ℕ) → corners ≡ obstacle → n ≡ decimal (length corners) → obstacle_lines obstacle ≡ line (codes "obstacle" ∷ n ∷ []) ++ concat (map corner_line corners)
obstacle_text obstacle corners n a b = rw (b, a) refl

-- the text of a site from its parts
pub site_text : (s : Site) (v w : Version) (mode : Mode) (types : List CableType) (points : List Point) (obstacles : List (List Place)) → v ≡ s.version → mode ≡ s.mode → w ≡ s.version → types ≡ s.types → points ≡ s.points → obstacles ≡ s.obstacles → site_lines s ≡ site_line v ++ mode_line mode ++ concat (map (type_line w) types) ++ concat (map point_line points) ++ concat (map obstacle_lines obstacles) ++ concat (map (pair_line s) s.pairs) ++ line (codes "end" ∷ codes "site" ∷ [])
site_text s v w mode types points obstacles a b c d e f = rw (a, b, c, d, e, f) refl
