use Rattle.cable_definitions.specs.Text.{type_line}
use Rattle.cable_text.proofs.Writers.{wrote_part, wrote_more}
use Rattle.site_text.proofs.write.push_types.Goals as goal

pub returns-in_err-push_type : goal.returns-in_err-push_type
returns-in_err-push_type g c =
    wrote_part (type_line c.args.version) c.args.types.now c.loop-cable_type.cable_type-index _ c.loop-cable_type-test.true c.from_residual.ensures.0 c.loop-cable_type.invariant c.in_err-push_type.ensures

pub loop-cable_type-preserved : goal.loop-cable_type-preserved
loop-cable_type-preserved g c = wrote_more (type_line c.args.version) c.args.types.now c.loop-cable_type.cable_type-index _ c.loop-cable_type-test.true c.loop-cable_type.invariant c.in_ok-push_type.ensures
