use Rattle.cable_definitions.specs.Text.{weight_line}
use Rattle.cable_text.proofs.Writers.{wrote_part, wrote_more}
use Rattle.proof_lines.proofs.write.push_weights.Goals as goal

pub returns-in_err-push_weight : goal.returns-in_err-push_weight
returns-in_err-push_weight g c =
    wrote_part weight_line c.args.weights.now c.loop-weight.weight-index _ c.loop-weight-test.true c.from_residual.ensures.0 c.loop-weight.invariant c.in_err-push_weight.ensures

pub loop-weight-preserved : goal.loop-weight-preserved
loop-weight-preserved g c = wrote_more weight_line c.args.weights.now c.loop-weight.weight-index _ c.loop-weight-test.true c.loop-weight.invariant c.in_ok-push_weight.ensures
