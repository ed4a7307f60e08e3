use Rattle.cable_definitions.specs.Text.{corner_line}
use Rattle.cable_text.proofs.Writers.{wrote_part_of, wrote_more_of}
use Rattle.site_text.proofs.write.push_corners.Goals as goal

pub returns-in_err-push_corner : goal.returns-in_err-push_corner
returns-in_err-push_corner g c =
    wrote_part_of corner_line c.args.corners.now c.loop-corner.corner-index c.corner-item.result c.loop-corner-test.true c.corner-item.is c.from_residual.ensures.0 c.loop-corner.invariant c.in_err-push_corner.ensures

pub loop-corner-preserved : goal.loop-corner-preserved
loop-corner-preserved g c = wrote_more_of corner_line c.args.corners.now c.loop-corner.corner-index c.corner-item.result c.loop-corner-test.true c.corner-item.is c.loop-corner.invariant c.in_ok-push_corner.ensures
