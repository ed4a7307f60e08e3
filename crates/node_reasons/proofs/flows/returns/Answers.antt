use Rattle.std.proofs.Common.{sym, refl}
use Rattle.node_reasons.proofs.Returning.{walk_end-more, ended_away, comes_back, never_back, not_yet-more}
use Rattle.node_reasons.proofs.flows.returns.Goals as goal

pub returns-in-None : goal.returns-in-None
returns-in-None c = (
  λ e. absurd (cc),
  λ r. absurd (ended_away c.args.cables.now c.args.p c.loop-step.step c.loop-step.at c.loop-step.invariant.at_is (sym c.in-None.ensures) c.loop-step.invariant.not_yet r),
)

pub returns-then-at-p : goal.returns-then-at-p
returns-then-at-p c = (
  λ e. comes_back c.args.cables.now c.args.p c.loop-step.step c.loop-step.at c.in-Some.next c.loop-step-test.true c.loop-step.invariant.at_is (sym c.in-Some.ensures) c.if-at-p.true,
  λ r. refl,
)

pub loop-step-preserved : goal.loop-step-preserved
loop-step-preserved c = record {
  at_is = sym (walk_end-more c.args.cables.now c.args.p c.loop-step.step c.loop-step.at c.in-Some.next c.loop-step.invariant.at_is (sym c.in-Some.ensures));
  not_yet = not_yet-more c.args.cables.now c.args.p c.loop-step.step c.loop-step.at c.in-Some.next c.loop-step.invariant.at_is (sym c.in-Some.ensures) c.if-at-p.false c.loop-step.invariant.not_yet;
}

pub returns : goal.returns
returns c = (
  λ e. absurd (cc),
  λ r. absurd (never_back c.args.cables.now c.args.p c.loop-step.step c.loop-step-test.false c.loop-step.invariant.not_yet r),
)
