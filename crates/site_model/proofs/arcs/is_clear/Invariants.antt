use Rattle.std.specs.List.{AllWithin}
use Rattle.cable_definitions.specs.Plane.{edges}
use Rattle.site_model.specs.Passing.{IsClear}
use Rattle.site_model.proofs.arcs.is_clear.Given as goal

abbrev pub invariant-loop-obstacle : goal.invariant-loop-obstacle
invariant-loop-obstacle l = AllWithin (λ corners. IsClear l.a l.b (edges corners)) l.obstacles 0 l.obstacle-index
