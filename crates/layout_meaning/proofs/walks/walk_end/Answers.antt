use Rattle.std.proofs.Common.{sym, ◌∙◌, ◌-◌}
use Rattle.cable_definitions.specs.Walk.{most_steps}
use Rattle.layout_meaning.proofs.Walking.{walk_end_none, walk_end_later, walk_end_last}
use Rattle.layout_meaning.proofs.walks.walk_end.Goals as goal

pub returns-in-None : goal.returns-in-None
returns-in-None c = sym (c.loop-step.invariant ∙ walk_end_none (most_steps - c.loop-step.step) c.args.cables.now c.loop-step.at (sym c.cable_out.ensures ∙ c.in-None.is))

pub loop-step-preserved : goal.loop-step-preserved
loop-step-preserved c = c.loop-step.invariant ∙ walk_end_later c.args.cables.now c.loop-step.step c.loop-step.at c.in-Some.next c.loop-step-test.true (sym c.in-Some.ensures)

pub returns : goal.returns
returns c = sym (c.loop-step.invariant ∙ walk_end_last c.args.cables.now c.loop-step.step c.loop-step.at c.loop-step-test.false)
