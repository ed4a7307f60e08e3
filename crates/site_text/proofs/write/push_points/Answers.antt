use Rattle.cable_definitions.specs.Text.{point_line}
use Rattle.cable_text.proofs.Writers.{wrote_part_of, wrote_more_of}
use Rattle.site_text.proofs.write.push_points.Goals as goal

pub returns-in_err-push_point : goal.returns-in_err-push_point
returns-in_err-push_point g c =
    wrote_part_of point_line c.args.points.now c.loop-point.point-index c.point-item.result c.loop-point-test.true c.point-item.is c.from_residual.ensures.0 c.loop-point.invariant c.in_err-push_point.ensures

pub loop-point-preserved : goal.loop-point-preserved
loop-point-preserved g c = wrote_more_of point_line c.args.points.now c.loop-point.point-index c.point-item.result c.loop-point-test.true c.point-item.is c.loop-point.invariant c.in_ok-push_point.ensures
