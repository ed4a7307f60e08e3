use Rattle.std.proofs.Common.{List, arith, ap, sym, length, ◌∙◌, below_more}
use Rattle.cable_definitions.specs.declared.cable.Cable.{Cable}
use Rattle.cable_definitions.specs.Site.{Site}
use Rattle.cable_definitions.specs.Arcs.{capacity_of}
use Rattle.cable_definitions.specs.Walk.{cable_out}
use Rattle.cable_definitions.specs.Layout.{KeepsCapacity}
use Rattle.layout_meaning.proofs.Places.{at_each_place}
use Rattle.layout_meaning.proofs.Starting.{none_since, out_past, capacity_here, capacity_broken, capacity_none, first_start}
use Rattle.layout_meaning.proofs.loads.first_overloaded.Goals as goal
use Rattle.layout_meaning.proofs.loads.first_overloaded.Goals.{in-Some+else-load-capacity, in_default}

pub returns-then-load-capacity-clause-first : goal.returns-then-load-capacity-clause-first
returns-then-load-capacity-clause-first c =
    let s = c.args.flows.now.site in
    let cables = c.args.flows.now.cables in
    let e = ap (λ (xs : List Cable). cable_out xs c.loop-p.p) (sym c.outgoing-outgoing.ensures) ∙ sym c.cable_out.ensures ∙ c.in-Some.is in
    let capacity = c.capacity.ensures.capacity ∙ ap (λ (t : Site). capacity_of t c.in-Some.cable.grade) c.site-site.ensures.value in
    first_start s cables c.loop-p.p c.in-Some.cable e
    (record { broken = capacity_broken s cables c.loop-p.p c.in-Some.cable e (λ kept. absurd (omega (arith, kept, c.load.ensures.value, capacity, c.if-load-capacity.true))); earlier = c.loop-p.invariant })

pub loop-p-preserved : goal.loop-p-preserved
loop-p-preserved c =
    let s = c.args.flows.now.site in
    let cables = c.args.flows.now.cables in
    let out = ap (λ (xs : List Cable). cable_out xs c.loop-p.p) (sym c.outgoing-outgoing.ensures) ∙ sym c.cable_out.ensures in
    below_more _ _ c.loop-p.invariant (elim c.match-cable_out.branch [
      | in-Some+else-load-capacity w ↦
          let capacity = w.capacity.ensures.capacity ∙ ap (λ (t : Site). capacity_of t w.in-Some.cable.grade) c.site-site.ensures.value in
          capacity_here s cables c.loop-p.p w.in-Some.cable c.requires.start (out ∙ w.in-Some.is) (omega (arith, w.load.ensures.value, capacity, w.if-load-capacity.false))
      | in_default w ↦ capacity_none s cables c.loop-p.p (out ∙ none_since c.cable_out.result w.in_default.not-Some)
    ])

pub returns-clause-none : goal.returns-clause-none
returns-clause-none c =
    let s = c.args.flows.now.site in
    let cables = c.args.flows.now.cables in
    let count = ap length c.points.ensures.value ∙ ap (λ (t : Site). length t.points) c.site-site.ensures.value in
    at_each_place (KeepsCapacity s cables) c.loop-p.p c.loop-p.invariant
    (λ p h. capacity_none s cables p (out_past s cables p c.requires.range (omega (arith, count))))
