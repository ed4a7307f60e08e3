-- On which side of an arc's line points stand.
use Rattle.std.specs.Prelude.{◌≡◌, ℕ, ℤ, pos, ◌<ℤ◌, List, slice_index_or, slice_get, Some}
use Rattle.cable_definitions.specs.declared.place.Place.{Place}
use Rattle.cable_definitions.specs.declared.site.Point.{Point}
use Rattle.cable_definitions.specs.declared.cable.Arc.{Arc}
use Rattle.cable_definitions.specs.Plane.{orient}
use Rattle.cable_definitions.specs.Site.{Site}
use Rattle.cable_definitions.specs.Arcs.{IsPoint}
use Rattle.crossing_index.specs.declared.sides.Side.{Side}
use Rattle.crossing_index.specs.declared.sides.Side.TheVariants.{Left, OnLine, Right}

-- the side that goes with twice the signed area; nothing is claimed on the line
abbrev pub StandsOn : Side → ℤ → Type 0
StandsOn Left area = pos 0 <ℤ area
StandsOn OnLine area = Unit
StandsOn Right area = area <ℤ pos 0

-- at each point's number stands the point's side of the line through A and B
abbrev pub AreSides : List Point → Place → Place → List Side → Type 0
AreSides points a b sides = (p : ℕ) (point : Point) → slice_get points p ≡ Some point → StandsOn (slice_index_or sides p OnLine) (orient a b point.at)

-- at each point's number stands the point's side of the arc's line
abbrev pub HasSides : Site → Arc → List Side → Type 0
HasSides s arc sides = (from to : Point) → IsPoint s arc.from from → IsPoint s arc.to to → AreSides s.points from.at to.at sides

-- both stand on the left, or both on the right
abbrev pub AreBeside : Side → Side → Type 0
AreBeside Left second = second ≡ Left
AreBeside OnLine second = ⊥
AreBeside Right second = second ≡ Right
