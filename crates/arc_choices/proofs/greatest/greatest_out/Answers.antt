use Rattle.std.proofs.Common.{◌∙◌, ◌+◌, ℕ, fold, drop, arith, sym, ap}
use Rattle.site_model.specs.Best.{most_cost}
use Rattle.arc_choices.proofs.GreatestCosts.{with_arc, arcs_begin, arcs_more, arcs_all, ord_max-nat, max_small}
use Rattle.arc_choices.proofs.LeastUses.{is_arc}
use Rattle.arc_choices.proofs.greatest.greatest_out.Goals as goal

pub loop-number-init : goal.loop-number-init
loop-number-init c = record { rest = arcs_begin c.args.site.now c.args.arcs.now c.args.p c.out_of-first.result.0 c.out_of-first.ensures.first; small = omega arith }

pub greatest_of_types-requires : goal.greatest_of_types-requires
greatest_of_types-requires c = is_arc c.args.site.now c.args.arcs.now c.loop-number.number c.get.result c.requires c.get.ensures

pub loop-number-preserved : goal.loop-number-preserved
loop-number-preserved c =
    let s = c.args.site.now in
    let arcs = c.args.arcs.now in
    let cost = c.greatest_of_types.result in
    let greater = c.max-most.ensures ∙ ord_max-nat c.loop-number.most cost in
    record {
      rest = ap (λ (m : ℕ). fold (with_arc s c.args.p) m (drop (c.loop-number.number + 1) arcs)) greater
          ∙ (arcs_more s arcs c.args.p c.out_of-first.result.0 c.out_of-first.result.1 c.loop-number.number c.loop-number.most cost c.get.result c.out_of-first.ensures.first c.out_of-first.ensures.past (omega arith) c.loop-number-test.true c.get.ensures c.greatest_of_types.ensures.greatest
          ∙ c.loop-number.invariant.rest);
      small = max_small c.max-most.result c.loop-number.most cost most_cost greater c.loop-number.invariant.small c.greatest_of_types.ensures.most;
    }

pub returns-clause-greatest : goal.returns-clause-greatest
returns-clause-greatest c =
    sym (arcs_all c.args.site.now c.args.arcs.now c.args.p c.out_of-first.result.1 c.loop-number.number c.loop-number.most c.out_of-first.ensures.past c.loop-number-test.false) ∙ c.loop-number.invariant.rest
