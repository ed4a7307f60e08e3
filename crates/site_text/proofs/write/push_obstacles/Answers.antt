use Rattle.cable_definitions.specs.Text.{obstacle_lines}
use Rattle.cable_text.proofs.Writers.{wrote_part_of, wrote_more_of}
use Rattle.site_text.proofs.write.push_obstacles.Goals as goal

pub returns-in_err-push_obstacle : goal.returns-in_err-push_obstacle
returns-in_err-push_obstacle g c =
    wrote_part_of obstacle_lines c.args.obstacles.now c.loop-obstacle.obstacle-index c.obstacle-item.result c.loop-obstacle-test.true c.obstacle-item.is c.from_residual.ensures.0 c.loop-obstacle.invariant c.in_err-push_obstacle.ensures

pub loop-obstacle-preserved : goal.loop-obstacle-preserved
loop-obstacle-preserved g c = wrote_more_of obstacle_lines c.args.obstacles.now c.loop-obstacle.obstacle-index c.obstacle-item.result c.loop-obstacle-test.true c.obstacle-item.is c.loop-obstacle.invariant c.in_ok-push_obstacle.ensures
