use Rattle.std.proofs.Common.{◌+◌, List, length, get_or, arith, sym, ◌∙◌, ap, subst}
use Rattle.cable_definitions.specs.declared.cable.Cable.{Cable}
use Rattle.plain_planner.specs.Choices.{cable_to, Completes, IsBestTried}
use Rattle.plain_planner.proofs.Best.{one_more_end, all_ends, popped, pushed_on, kept_on, CompletesBelow}
use Rattle.plain_planner.proofs.+best_from.Goals as goal

pub loop-to-preserved : goal.loop-to-preserved
loop-to-preserved n c =
    let s = c.args.site.now in
    let p = c.args.p in
    let chosen = c.args.chosen.now.items in
    let pushed = pushed_on c.push.new.self.items c.loop-to.chosen.items chosen (cable_to p c.loop-to.to) c.in_ok-push.ensures.items c.loop-to.invariant.same in
    let back = kept_on c.best_from-in-loop-to.new.chosen.items c.push.new.self.items chosen (cable_to p c.loop-to.to) c.in_ok-found.ensures.same pushed in
    let found = subst (λ (xs : List Cable). IsBestTried s (Completes s xs (p + 1)) c.in_ok-found.found) pushed c.in_ok-found.ensures.best in
    record {
      same = popped c.best_from-in-loop-to.new.chosen.items c.pop.new.self.items chosen (cable_to p c.loop-to.to) _ c.pop.ensures.rest c.best_from-in-loop-to.new.chosen.ok.0 back;
      best = subst (IsBestTried s (CompletesBelow s chosen p (c.loop-to.to + 1))) (sym c.cheaper-best.ensures) (one_more_end s chosen p c.loop-to.to c.loop-to.best c.in_ok-found.found c.loop-to.invariant.best found);
    }

pub returns-clause-best : goal.returns-clause-best
returns-clause-best n c =
    let s = c.args.site.now in
    let e = ap length c.points-points.ensures.value in
    let is = c.index-points-p.is ∙ ap (λ xs. get_or xs c.args.p c.index-points-p.result) c.points-points.ensures.value in
    all_ends s c.args.chosen.now.items c.args.p c.loop-to.to c.index-points-p.result c.in-Turbine.power c.loop-to.best (omega (arith, e, c.requires.within, c.if-p-points.false)) is c.in-Turbine.is
    (omega (arith, e, c.loop-to-test.false)) c.loop-to.invariant.best
