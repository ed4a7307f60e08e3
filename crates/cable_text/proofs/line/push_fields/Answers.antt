use Rattle.cable_text.specs.Fields.{spaced}
use Rattle.cable_text.proofs.Writers.{wrote_part, wrote_more}
use Rattle.cable_text.proofs.line.push_fields.Goals as goal

pub returns-in_err-push_spaced : goal.returns-in_err-push_spaced
returns-in_err-push_spaced g c =
    wrote_part spaced c.args.fields.now c.loop-field.field-index _ c.loop-field-test.true c.from_residual.ensures.0 c.loop-field.invariant c.in_err-push_spaced.ensures

pub loop-field-preserved : goal.loop-field-preserved
loop-field-preserved g c =
    wrote_more spaced c.args.fields.now c.loop-field.field-index _ c.loop-field-test.true c.loop-field.invariant c.in_ok-push_spaced.ensures
