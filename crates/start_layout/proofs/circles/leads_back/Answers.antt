use Rattle.std.proofs.Common.{arith, sym, ◌∙◌}
use Rattle.std.proofs.lemmas.Bool.Decides.{nat_tests}
use Rattle.layout_meaning.proofs.Walking.{comes_later, comes_last}
use Rattle.start_layout.proofs.circles.leads_back.Goals as goal

pub loop-step-preserved : goal.loop-step-preserved
loop-step-preserved c =
    c.loop-step.invariant ∙ comes_later c.args.cables.now c.args.arc.from c.loop-step.step c.loop-step.at c.in-Some.cable c.loop-step-test.true (grind (arith, nat_tests)) (sym c.in-Some.ensures)

pub returns : goal.returns
returns c = sym (c.loop-step.invariant ∙ comes_last c.args.cables.now c.args.arc.from c.loop-step.step c.loop-step.at c.loop-step-test.false)
