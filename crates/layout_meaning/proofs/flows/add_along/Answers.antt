use Rattle.std.proofs.Common.{sym, ◌∙◌, Bool, false}
use Rattle.std.proofs.lemmas.List.{length-replicate}
use Rattle.layout_meaning.proofs.Tallying.{tally_start, passed_start, tally_small, passed_on, passed_none, passed_last, all_added}
use Rattle.layout_meaning.proofs.flows.add_along.Goals as goal

pub loop-step-init : goal.loop-step-init
loop-step-init c = record {
  tally = tally_start c.args.loads.now c.args.power c.told-loads (length-replicate {A = Bool} 256 false);
  passed = λ p h. passed_start c.args.cables.now c.args.t p h;
}

pub pass_by-requires-clause-small : goal.pass_by-requires-clause-small
pass_by-requires-clause-small c = λ p h. tally_small c.args.loads.now c.args.power c.loop-step.met c.loop-step.loads p c.loop-step.invariant.tally c.requires.power h (c.requires.small p h)

pub pass_by-requires-2-clause-small : goal.pass_by-requires-2-clause-small
pass_by-requires-2-clause-small c = λ p h. tally_small c.args.loads.now c.args.power c.loop-step.met c.loop-step.loads p c.loop-step.invariant.tally c.requires.power h (c.requires.small p h)

pub returns-in-None : goal.returns-in-None
returns-in-None c =
    all_added c.args.cables.now c.args.t c.args.power c.loop-step.at c.args.loads.now c.pass_by.new.loads c.loop-step.met c.pass_by.new.met c.pass_by.ensures.met
    (c.pass_by.ensures.tally c.args.loads.now c.loop-step.invariant.tally)
    (λ p h. passed_none c.args.cables.now c.args.t p c.loop-step.step c.loop-step.at c.loop-step.met c.loop-step-test.true (sym c.cable_out.ensures ∙ c.in-None.is) (c.loop-step.invariant.passed p h))

pub loop-step-preserved : goal.loop-step-preserved
loop-step-preserved c = record {
  tally = c.pass_by.ensures.tally c.args.loads.now c.loop-step.invariant.tally;
  passed = λ p h. passed_on c.args.cables.now c.args.t p c.loop-step.step c.loop-step.at c.in-Some.next c.loop-step.met c.pass_by.new.met h c.loop-step-test.true (sym c.in-Some.ensures) c.pass_by.ensures.met (c.loop-step.invariant.passed p h);
}

pub returns : goal.returns
returns c =
    all_added c.args.cables.now c.args.t c.args.power c.loop-step.at c.args.loads.now c.pass_by-2.new.loads c.loop-step.met c.pass_by-2.new.met c.pass_by-2.ensures.met
    (c.pass_by-2.ensures.tally c.args.loads.now c.loop-step.invariant.tally)
    (λ p h. passed_last c.args.cables.now c.args.t p c.loop-step.step c.loop-step.at c.loop-step.met c.loop-step-test.false (c.loop-step.invariant.passed p h))
