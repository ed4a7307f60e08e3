use Rattle.std.proofs.Common.{◌≡◌, ℕ, get_or}
use Rattle.std.specs.Prelude.{slice_get}
use Rattle.cable_definitions.specs.declared.site.Point.{Point}
use Rattle.cable_definitions.specs.Site.{Site}
use Rattle.cable_definitions.specs.Plane.{length_of}
use Rattle.cable_definitions.specs.Arcs.{IsPoint, length_between}
use Rattle.layout_meaning.proofs.Places.{point_at}
use Rattle.plane_geometry.proofs.Lengths.{length_is, length_small}
use Rattle.plan_report.proofs.sums.cable_length.Goals as goal

-- the length between two points by their numbers is that between their places
length_read : (s : Site) (p q : ℕ) (from to : Point) (l : ℕ) → IsPoint s p from → IsPoint s q to → l ≡ length_of from.at to.at → l ≡ length_between (slice_get s.points p) (slice_get s.points q)
length_read s p q from to l e f h = rw (e, f) h

pub returns-clause-metres : goal.returns-clause-metres
returns-clause-metres c =
    let s = c.args.site.now in
    let points = c.points-points.result.now in
    let from = get_or points c.args.cable.from c.index-points-cable.result in
    let to = get_or points c.args.cable.to c.index-points-cable-2.result in
    let from_is = point_at s points c.args.cable.from c.index-points-cable.result c.points-points.ensures.value c.requires.from in
    let to_is = point_at s points c.args.cable.to c.index-points-cable-2.result c.points-points.ensures.value c.requires.to in
    length_read s c.args.cable.from c.args.cable.to from to c.length.result from_is to_is (length_is from.at to.at c.length.result c.length.ensures)

pub returns-clause-small : goal.returns-clause-small
returns-clause-small c = length_small _ _ c.length.result c.length.ensures
