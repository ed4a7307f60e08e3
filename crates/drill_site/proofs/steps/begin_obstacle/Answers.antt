use Rattle.std.proofs.Common.{pos, Some, refl}
use Rattle.cable_definitions.specs.Items.{AnObstacle}
use Rattle.drill_site.proofs.Welcome.{never_refused, IsGood-square}
use Rattle.drill_site.proofs.steps.begin_obstacle.Goals as goal

pub made-requires : goal.made-requires
made-requires c = never_refused c.add_obstacle.result c.args.builder.now (AnObstacle (Some (pos 4))) (AnObstacle (Some (pos 4))) refl (IsGood-square c.args.builder.now c.requires.takes) c.add_obstacle.ensures.refused
