use Rattle.std.proofs.Common.{◌≡◌, get_or, arith, ap, subst, length}
use Rattle.cable_definitions.specs.declared.cable.Cable.{Cable}
use Rattle.cable_definitions.specs.Site.{Site}
use Rattle.cable_definitions.specs.Arcs.{cost_of}
use Rattle.layout_meaning.proofs.Costing.{load_small_at, cost_small_at}
use Rattle.layout_meaning.proofs.Flowing.{cable_there, cost_step_read}
use Rattle.layout_meaning.proofs.costs.total_cost.Goals as goal

-- a cable of numbers 0, for places past the list
abbrev none : Cable
none = record { from = 0; to = 0; grade = 0 }

pub load-carried-requires : goal.load-carried-requires
load-carried-requires c = (c.requires.range c.loop-cable.cable-index).from _ (cable_there c.args.flows.now.cables c.cables-cables.result.now c.loop-cable.cable-index none c.cables-cables.ensures c.loop-cable-test.true)

pub arc_cost-total-requires-clause-from : goal.arc_cost-total-requires-clause-from
arc_cost-total-requires-clause-from c =
    let e = cable_there c.args.flows.now.cables c.cables-cables.result.now c.loop-cable.cable-index none c.cables-cables.ensures c.loop-cable-test.true in
    rw c.site-site.ensures.value ((c.requires.range c.loop-cable.cable-index).from _ e)

pub arc_cost-total-requires-clause-to : goal.arc_cost-total-requires-clause-to
arc_cost-total-requires-clause-to c =
    let e = cable_there c.args.flows.now.cables c.cables-cables.result.now c.loop-cable.cable-index none c.cables-cables.ensures c.loop-cable-test.true in
    rw c.site-site.ensures.value ((c.requires.range c.loop-cable.cable-index).to _ e)

pub arc_cost-total-requires-clause-grade : goal.arc_cost-total-requires-clause-grade
arc_cost-total-requires-clause-grade c =
    let e = cable_there c.args.flows.now.cables c.cables-cables.result.now c.loop-cable.cable-index none c.cables-cables.ensures c.loop-cable-test.true in
    rw c.site-site.ensures.value ((c.requires.range c.loop-cable.cable-index).grade _ e)

pub arc_cost-total-requires-clause-load : goal.arc_cost-total-requires-clause-load
arc_cost-total-requires-clause-load c =
    let e = cable_there c.args.flows.now.cables c.cables-cables.result.now c.loop-cable.cable-index none c.cables-cables.ensures c.loop-cable-test.true in
    let b = load_small_at c.args.flows.now.site c.args.flows.now.cables c.loop-cable.cable-index _ c.site-site.ensures.valid e c.requires.capacity in
    omega (arith, b, c.load-carried.ensures.value)

pub overflow_add-total : goal.overflow_add-total
overflow_add-total c =
    let e = cable_there c.args.flows.now.cables c.cables-cables.result.now c.loop-cable.cable-index none c.cables-cables.ensures c.loop-cable-test.true in
    let b = load_small_at c.args.flows.now.site c.args.flows.now.cables c.loop-cable.cable-index _ c.site-site.ensures.valid e c.requires.capacity in
    let here : Cable = get_or c.cables-cables.result.now c.loop-cable.cable-index none in
    let cost = subst (λ (s : Site). c.arc_cost-total.result ≡ cost_of s here.from here.to here.grade c.load-carried.result) c.site-site.ensures.value c.arc_cost-total.ensures in
    let small = cost_small_at c.args.flows.now.site here.from here.to here.grade c.load-carried.result c.arc_cost-total.result c.site-site.ensures.valid (omega (arith, b, c.load-carried.ensures.value)) cost in
    omega (arith, small, ap length c.cables-cables.ensures)

pub loop-cable-preserved : goal.loop-cable-preserved
loop-cable-preserved c =
    let e = cable_there c.args.flows.now.cables c.cables-cables.result.now c.loop-cable.cable-index none c.cables-cables.ensures c.loop-cable-test.true in
    let b = load_small_at c.args.flows.now.site c.args.flows.now.cables c.loop-cable.cable-index _ c.site-site.ensures.valid e c.requires.capacity in
    let here : Cable = get_or c.cables-cables.result.now c.loop-cable.cable-index none in
    let cost = subst (λ (s : Site). c.arc_cost-total.result ≡ cost_of s here.from here.to here.grade c.load-carried.result) c.site-site.ensures.value c.arc_cost-total.ensures in
    let small = cost_small_at c.args.flows.now.site here.from here.to here.grade c.load-carried.result c.arc_cost-total.result c.site-site.ensures.valid (omega (arith, b, c.load-carried.ensures.value)) cost in
    record {
      bound = omega (arith, small);
      total = cost_step_read c.args.flows.now.site c.args.flows.now.cables c.cables-cables.result.now c.loop-cable.cable-index none c.loop-cable.total _ c.arc_cost-total.result c.cables-cables.ensures c.loop-cable-test.true c.loop-cable.invariant.total c.load-carried.ensures.value cost;
    }
