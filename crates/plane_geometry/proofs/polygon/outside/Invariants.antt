use Rattle.plane_geometry.proofs.Polygons.{Passed}
use Rattle.plane_geometry.proofs.polygon.outside.Given as goal

abbrev pub invariant-loop-corner : goal.invariant-loop-corner
invariant-loop-corner l = Passed l.p l.corners l.before l.corner-index l.counted
