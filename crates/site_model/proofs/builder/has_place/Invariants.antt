use Rattle.std.proofs.Common.{ℕ, ◌<◌, get_or}
use Rattle.cable_definitions.specs.declared.site.Point.{Point}
use Rattle.cable_definitions.specs.Plane.{SamePlace}
use Rattle.site_model.proofs.builder.has_place.Given as goal

abbrev pub invariant-loop-point : goal.invariant-loop-point
invariant-loop-point l = (k : ℕ) (d : Point) → k < l.point-index → SamePlace (get_or l.points k d).at l.at → ⊥
