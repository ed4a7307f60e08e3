use Rattle.std.proofs.Common.{◌≡◌, ◌<◌, ℕ, length, slice_get, Some}
use Rattle.std.specs.List.{slice_index_or}
use Rattle.cable_definitions.specs.declared.site.Point.{Point}
use Rattle.cable_definitions.specs.Plane.{orient}
use Rattle.crossing_index.specs.declared.sides.Side.TheVariants.{OnLine}
use Rattle.crossing_index.specs.Sides.{StandsOn}
use Rattle.crossing_index.proofs.sides.sides_by.Given as goal

abbrev pub invariant-loop-p : goal.invariant-loop-p
invariant-loop-p l = record {
  room : length l.sides ≡ 256;
  below : (p : ℕ) → p < l.p → (point : Point) → slice_get l.points p ≡ Some point → StandsOn (slice_index_or l.sides p OnLine) (orient l.a l.b point.at);
}
