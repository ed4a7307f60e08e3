use Rattle.std.proofs.Common.{◌≡◌, ◌≤◌, get_or, arith, refl, ap, ◌∙◌, subst}
use Rattle.std.proofs.lemmas.Option.{slice_get-get_or}
use Rattle.cable_definitions.specs.declared.cable.Cable.{Cable}
use Rattle.cable_definitions.specs.Site.{Site}
use Rattle.cable_definitions.specs.Arcs.{capacity_of, cost_of}
use Rattle.layout_meaning.proofs.Costing.{cost_small_at, cost_step}
use Rattle.start_layout.proofs.Choosing.{typed_range, typed_load}
use Rattle.start_layout.proofs.types.cost_of_typed.Goals as goal

-- a cable of numbers 0, for places past the list
abbrev none : Cable
none = record { from = 0; to = 0; grade = 0 }

pub load-carried-requires : goal.load-carried-requires
load-carried-requires c =
    let e = slice_get-get_or c.args.typed.now c.loop-cable.cable-index none c.loop-cable-test.true in
    (typed_range c.args.flows.now.site c.args.flows.now.cables c.args.typed.now c.site-site.ensures.valid c.requires.points c.requires.typed c.loop-cable.cable-index).from _ e

pub returns-then-carried-capacity-clause-none : goal.returns-then-carried-capacity-clause-none
returns-then-carried-capacity-clause-none c legal =
    let s = c.args.flows.now.site in
    let i = c.loop-cable.cable-index in
    let here : Cable = get_or c.args.typed.now i none in
    let e = slice_get-get_or c.args.typed.now i none c.loop-cable-test.true in
    let l = c.load-carried.ensures.value ∙ typed_load s c.args.flows.now.cables c.args.typed.now here.from c.requires.typed in
    let kept = legal.capacity here.from i here e refl in
    let capacity = c.capacity.ensures.capacity ∙ ap (λ (t : Site). capacity_of t here.grade) c.site-site.ensures.value in
    absurd (omega (arith, c.if-carried-capacity.true, kept, capacity, l))

pub arc_cost-total-requires-clause-from : goal.arc_cost-total-requires-clause-from
arc_cost-total-requires-clause-from c =
    let e = slice_get-get_or c.args.typed.now c.loop-cable.cable-index none c.loop-cable-test.true in
    rw c.site-site.ensures.value ((typed_range c.args.flows.now.site c.args.flows.now.cables c.args.typed.now c.site-site.ensures.valid c.requires.points c.requires.typed c.loop-cable.cable-index).from _ e)

pub arc_cost-total-requires-clause-to : goal.arc_cost-total-requires-clause-to
arc_cost-total-requires-clause-to c =
    let e = slice_get-get_or c.args.typed.now c.loop-cable.cable-index none c.loop-cable-test.true in
    rw c.site-site.ensures.value ((typed_range c.args.flows.now.site c.args.flows.now.cables c.args.typed.now c.site-site.ensures.valid c.requires.points c.requires.typed c.loop-cable.cable-index).to _ e)

pub arc_cost-total-requires-clause-grade : goal.arc_cost-total-requires-clause-grade
arc_cost-total-requires-clause-grade c =
    let e = slice_get-get_or c.args.typed.now c.loop-cable.cable-index none c.loop-cable-test.true in
    rw c.site-site.ensures.value ((typed_range c.args.flows.now.site c.args.flows.now.cables c.args.typed.now c.site-site.ensures.valid c.requires.points c.requires.typed c.loop-cable.cable-index).grade _ e)

pub overflow_add-total : goal.overflow_add-total
overflow_add-total c =
    let s = c.args.flows.now.site in
    let here : Cable = get_or c.args.typed.now c.loop-cable.cable-index none in
    let cost = subst (λ (t : Site). c.arc_cost-total.result ≡ cost_of t here.from here.to here.grade c.load-carried.result) c.site-site.ensures.value c.arc_cost-total.ensures in
    let carried : c.load-carried.result ≤ 10000 = omega (arith, c.if-carried-capacity.false, c.capacity.ensures.most) in
    let small = cost_small_at s here.from here.to here.grade c.load-carried.result c.arc_cost-total.result c.site-site.ensures.valid carried cost in
    omega (arith, small)

pub loop-cable-preserved : goal.loop-cable-preserved
loop-cable-preserved c =
    let s = c.args.flows.now.site in
    let typed = c.args.typed.now in
    let i = c.loop-cable.cable-index in
    let here : Cable = get_or typed i none in
    let cost = subst (λ (t : Site). c.arc_cost-total.result ≡ cost_of t here.from here.to here.grade c.load-carried.result) c.site-site.ensures.value c.arc_cost-total.ensures in
    let carried : c.load-carried.result ≤ 10000 = omega (arith, c.if-carried-capacity.false, c.capacity.ensures.most) in
    let small = cost_small_at s here.from here.to here.grade c.load-carried.result c.arc_cost-total.result c.site-site.ensures.valid carried cost in
    let l = c.load-carried.ensures.value ∙ typed_load s c.args.flows.now.cables typed here.from c.requires.typed in
    record {
      bound = omega (arith, small);
      total = cost_step s typed i none c.loop-cable.total _ c.arc_cost-total.result c.loop-cable-test.true c.loop-cable.invariant.total l cost;
    }
