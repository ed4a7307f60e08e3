use Rattle.std.proofs.Common.{◌≢◌}
use Rattle.std.specs.List.{AllWithin}
use Rattle.cable_definitions.specs.declared.site.Kind.TheVariants.{Bend}
use Rattle.plain_planner.proofs.has_no_bend.Given as goal

abbrev pub invariant-loop-point : goal.invariant-loop-point
invariant-loop-point l = AllWithin (λ p. p.kind ≢ Bend) l.points 0 l.point-index
