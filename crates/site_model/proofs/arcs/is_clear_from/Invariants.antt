use Rattle.std.proofs.Common.{◌↔◌, drop}
use Rattle.cable_definitions.specs.Plane.{edges_from}
use Rattle.site_model.specs.Passing.{IsClear}
use Rattle.site_model.proofs.arcs.is_clear_from.Given as goal

abbrev pub invariant-loop-corner : goal.invariant-loop-corner
invariant-loop-corner l = IsClear l.a l.b (edges_from l.fn.before l.corners) ↔ IsClear l.a l.b (edges_from l.last (drop l.corner-index l.corners))
