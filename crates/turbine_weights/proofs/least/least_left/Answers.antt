use Rattle.std.proofs.Common.{◌≤◌, ◌+◌, ℕ, Option, IfSome, sym, subst, arith}
use Rattle.site_model.specs.Best.{most_cost}
use Rattle.turbine_weights.proofs.LeastLeft.{IsLeastBelow, left_begin, left_more, left_none, left_some, lesser_small}
use Rattle.turbine_weights.proofs.least.least_left.Goals as goal

pub loop-number-init : goal.loop-number-init
loop-number-init c = record { least = left_begin c.args.site.now c.args.arcs.now c.args.decisions.now c.args.p c.out_of-first.result.0 c.out_of-first.ensures.first; small = tt }

pub loop-number-preserved : goal.loop-number-preserved
loop-number-preserved c =
    let s = c.args.site.now in
    let arcs = c.args.arcs.now in
    let marks = c.args.decisions.now in
    let n = c.loop-number.number in
    let cost = c.cost_left.ensures in
    record {
      least = subst (IsLeastBelow s arcs marks c.args.p (n + 1)) (sym c.lesser-least.ensures)
          (left_more s arcs marks c.args.p c.out_of-first.result.0 c.out_of-first.result.1 n c.loop-number.least c.cost_left.result c.out_of-first.ensures.first c.out_of-first.ensures.past (omega arith) c.loop-number-test.true
          (record { none = cost.none; left = cost.left; own = cost.cost }) c.loop-number.invariant.least);
      small = subst (λ (o : Option ℕ). IfSome o (λ m. m ≤ most_cost)) (sym c.lesser-least.ensures) (lesser_small c.loop-number.least c.cost_left.result c.loop-number.invariant.small cost.small);
    }

pub returns-clause-none : goal.returns-clause-none
returns-clause-none c = left_none c.args.site.now c.args.arcs.now c.args.decisions.now c.args.p c.out_of-first.result.1 c.loop-number.number c.loop-number.least c.out_of-first.ensures.past c.loop-number-test.false c.loop-number.invariant.least

pub returns-clause-least : goal.returns-clause-least
returns-clause-least c = left_some c.args.site.now c.args.arcs.now c.args.decisions.now c.args.p c.out_of-first.result.1 c.loop-number.number c.loop-number.least c.out_of-first.ensures.past c.loop-number-test.false c.loop-number.invariant.least
