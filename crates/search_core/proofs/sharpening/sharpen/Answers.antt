use Rattle.std.proofs.Common.{◌∙◌, ap, Ok, None, Some, subst, arith}
use Rattle.std.proofs.lemmas.Int.{ints}
use Rattle.search_core.specs.Calls.{IsOneCall}
use Rattle.search_core.specs.declared.worth.Worth.{Worth}
use Rattle.search_progress.proofs.RowsListed.{lists-then}
use Rattle.search_core.proofs.Listing.{lists-well_formed}
use Rattle.search_core.proofs.RaisedCalls.{calls-then, called-last}
use Rattle.search_core.proofs.RaisedChoice.{settled-at, settled-there, settled-kept}
use Rattle.search_core.proofs.sharpening.sharpen.Goals as goal

pub returns-in-Some-clause-settled : goal.returns-in-Some-clause-settled
returns-in-Some-clause-settled g c =
    settled-at c.args.site.now c.args.arcs.now c.loop-call.pool c.args.decisions.now c.args.known c.args.parent c.loop-call.worth.value c.rounded_bound-bound.result (Some c.in-Some.choice)
    c.requires.parent c.requires.parent_small c.loop-call.invariant.raised.small c.rounded_bound-bound.ensures.bound c.rounded_bound-bound.ensures.at_least c.rounded_bound-bound.ensures.small
    (settled-there c.args.site.now c.args.arcs.now c.loop-call.pool c.args.decisions.now c.args.node.now c.args.known _ (Some c.in-Some.choice) c.requires.node c.in-Some.ensures.settled)

pub cut_again-requires-clause-well_formed : goal.cut_again-requires-clause-well_formed
cut_again-requires-clause-well_formed g c =
    lists-well_formed c.args.site.now c.args.arcs.now c.args.pool.now c.loop-call.pool c.loop-call.invariant.lists c.requires.well_formed

pub returns-in_err-cut_again-clause-lists : goal.returns-in_err-cut_again-clause-lists
returns-in_err-cut_again-clause-lists g c =
    lists-then c.args.site.now c.args.arcs.now c.args.pool.now c.loop-call.pool c.cut_again.new.pool c.loop-call.invariant.lists c.cut_again.ensures.lists

pub returns-then-not-branch-clause-lists : goal.returns-then-not-branch-clause-lists
returns-then-not-branch-clause-lists g c =
    lists-then c.args.site.now c.args.arcs.now c.args.pool.now c.loop-call.pool c.cut_again.new.pool c.loop-call.invariant.lists c.cut_again.ensures.lists

pub returns-then-not-branch-clause-risen : goal.returns-then-not-branch-clause-risen
returns-then-not-branch-clause-risen g c = (let before = c.loop-call.invariant.risen in let more = c.in_ok-cut_again.ensures.risen in omega (arith, ints, before, more))

pub returns-then-not-branch-clause-settled : goal.returns-then-not-branch-clause-settled
returns-then-not-branch-clause-settled g c =
    settled-kept c.args.site.now c.args.arcs.now c.loop-call.pool c.cut_again.new.pool c.args.decisions.now c.args.known _ c.loop-call.worth.value c.cut_again.new.worth.value None
    (c.in_ok-cut_again.ensures.same_pool (ap Ok c.if-not-branch.true)) (ap (λ (w : Worth). w.value) (c.in_ok-cut_again.ensures.same_worth (ap Ok c.if-not-branch.true)))
    (settled-at c.args.site.now c.args.arcs.now c.loop-call.pool c.args.decisions.now c.args.known c.args.parent c.loop-call.worth.value c.rounded_bound-bound.result None c.requires.parent
    c.requires.parent_small c.loop-call.invariant.raised.small c.rounded_bound-bound.ensures.bound c.rounded_bound-bound.ensures.at_least c.rounded_bound-bound.ensures.small
    (settled-there c.args.site.now c.args.arcs.now c.loop-call.pool c.args.decisions.now c.args.node.now c.args.known _ None c.requires.node c.in_default.ensures.settled))

pub returns-then-not-branch-clause-called : goal.returns-then-not-branch-clause-called
returns-then-not-branch-clause-called g c =
    called-last c.args.maker.now c.loop-call.maker c.cut_again.new.maker c.args.pool.now c.loop-call.pool c.cut_again.new.pool c.loop-call.call c.loop-call-test.true c.loop-call.invariant.calls
    (subst (IsOneCall c.loop-call.maker c.cut_again.new.maker c.loop-call.pool c.cut_again.new.pool) c.if-not-branch.true c.in_ok-cut_again.ensures.called)
    (c.in_ok-cut_again.ensures.same_pool (ap Ok c.if-not-branch.true))

pub loop-call-preserved : goal.loop-call-preserved
loop-call-preserved g c = record {
  lists = lists-then c.args.site.now c.args.arcs.now c.args.pool.now c.loop-call.pool c.cut_again.new.pool c.loop-call.invariant.lists c.cut_again.ensures.lists;
  same_make = c.cut_again.ensures.same_make ∙ c.loop-call.invariant.same_make;
  same_site = c.cut_again.ensures.same_site ∙ c.loop-call.invariant.same_site;
  raised = c.in_ok-cut_again.ensures.raised;
  risen = (let before = c.loop-call.invariant.risen in let more = c.in_ok-cut_again.ensures.risen in omega (arith, ints, before, more));
  calls =
      calls-then c.args.maker.now c.loop-call.maker c.cut_again.new.maker c.args.pool.now c.loop-call.pool c.cut_again.new.pool c.loop-call.call c.loop-call.invariant.calls
      (subst (IsOneCall c.loop-call.maker c.cut_again.new.maker c.loop-call.pool c.cut_again.new.pool) c.if-not-branch.false c.in_ok-cut_again.ensures.called);
}
