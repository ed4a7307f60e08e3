use Rattle.std.proofs.Common.{ℕ, ◌<◌, get_or}
use Rattle.cable_definitions.specs.declared.site.Point.{Point}
use Rattle.cable_definitions.specs.Plane.{IsOutside}
use Rattle.site_model.proofs.builder.has_inside.Given as goal

abbrev pub invariant-loop-point : goal.invariant-loop-point
invariant-loop-point l = (k : ℕ) (d : Point) → k < l.point-index → IsOutside (get_or l.points k d).at l.corners
