use Rattle.std.proofs.Common.{◌≡◌, drop}
use Rattle.cable_definitions.specs.Plane.{last_corner}
use Rattle.site_model.proofs.arcs.last_of.Given as goal

abbrev pub invariant-loop-corner : goal.invariant-loop-corner
invariant-loop-corner l = last_corner l.fn.first l.corners ≡ last_corner l.last (drop l.corner-index l.corners)
