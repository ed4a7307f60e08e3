use Rattle.cable_definitions.specs.Text.{cable_line}
use Rattle.cable_text.proofs.Writers.{wrote_part, wrote_more}
use Rattle.proof_lines.proofs.write.push_cables.Goals as goal

pub returns-in_err-push_cable : goal.returns-in_err-push_cable
returns-in_err-push_cable g c =
    wrote_part (cable_line c.args.site.now) c.args.cables.now c.loop-cable.cable-index _ c.loop-cable-test.true c.from_residual.ensures.0 c.loop-cable.invariant c.in_err-push_cable.ensures

pub loop-cable-preserved : goal.loop-cable-preserved
loop-cable-preserved g c = wrote_more (cable_line c.args.site.now) c.args.cables.now c.loop-cable.cable-index _ c.loop-cable-test.true c.loop-cable.invariant c.in_ok-push_cable.ensures
