-- The clash of two pairs of points, told by their segments.
use Rattle.std.proofs.Common.{◌≡◌, ℕ, ◌<◌, ◌∙◌, List, length, get_or, Some, sym, ap}
use Rattle.std.proofs.lemmas.Option.{slice_get-get_or}
use Rattle.cable_definitions.specs.declared.site.Point.{Point}
use Rattle.cable_definitions.specs.Plane.{Clash}
use Rattle.cable_definitions.specs.Site.{Site}
use Rattle.cable_definitions.specs.Arcs.{IsPoint}
use Rattle.cable_definitions.specs.Layout.{SamePair, PairsClash}
use Rattle.site_model.proofs.Candidates.{same_point}

-- the point that is read at a number is that of the number
pub point_at : (s : Site) (points : List Point) (p : ℕ) (d : Point) → points ≡ s.points → p < length s.points → IsPoint s p (get_or points p d)
point_at s points p d e h = slice_get-get_or s.points p d h ∙ ap (λ (xs : List Point). Some (get_or xs p d)) (sym e)

-- the pairs are different, and their points' segments clash
pub pairs_clash_from : (s : Site) (a b c d : ℕ) (p q r t : Point) → IsPoint s a p → IsPoint s b q → IsPoint s c r → IsPoint s d t → ¬ (SamePair a b c d) → Clash p.at q.at r.at t.at → PairsClash s a b c d
pairs_clash_from s a b c d p q r t e f g h n clash = record { different = n; from = p; to = q; other_from = r; other_to = t; from_is = e; to_is = f; other_from_is = g; other_to_is = h; clash = clash }

-- the segments of pairs that clash
pub pairs_clash_segments : (s : Site) (a b c d : ℕ) (p q r t : Point) → IsPoint s a p → IsPoint s b q → IsPoint s c r → IsPoint s d t → PairsClash s a b c d → Clash p.at q.at r.at t.at
pairs_clash_segments s a b c d p q r t e f g h k =
    let first = same_point s a p k.from e k.from_is in
    let second = same_point s b q k.to f k.to_is in
    let third = same_point s c r k.other_from g k.other_from_is in
    let fourth = same_point s d t k.other_to h k.other_to_is in
    rw (first, second, third, fourth) k.clash
