use Rattle.std.proofs.Common.{◌≡◌, arith, ap, sym, length, ◌∙◌, below_more}
use Rattle.cable_definitions.specs.Site.{Site}
use Rattle.cable_definitions.specs.Arcs.{kind_of}
use Rattle.cable_definitions.specs.Layout.{KeepsPower}
use Rattle.layout_meaning.proofs.Places.{at_each_place}
use Rattle.layout_meaning.proofs.Flowing.{range_joins, power_past}
use Rattle.layout_meaning.proofs.loads.first_overpowered.Goals as goal
use Rattle.layout_meaning.proofs.loads.first_overpowered.Goals.{in-Substation+else-load_into-power, in_default}

pub load_into-requires-clause-points : goal.load_into-requires-clause-points
load_into-requires-clause-points c = range_joins c.args.flows.now.site c.args.flows.now.cables c.requires.range

pub returns-then-load_into-power-clause-first : goal.returns-then-load_into-power-clause-first
returns-then-load_into-power-clause-first c =
    let kind = ap (λ (s : Site). kind_of s c.loop-p.p) (sym c.site-site.ensures.value) ∙ sym c.kind.ensures.kind ∙ c.in-Substation.is in
    record { broken = λ kept. let k = kept c.in-Substation.feeders c.in-Substation.power kind in absurd (omega (arith, k, c.load_into.ensures, c.if-load_into-power.true)); earlier = c.loop-p.invariant }

pub loop-p-preserved : goal.loop-p-preserved
loop-p-preserved c =
    let kind = c.kind.ensures.kind ∙ ap (λ (s : Site). kind_of s c.loop-p.p) c.site-site.ensures.value in
    below_more _ _ c.loop-p.invariant (elim c.match-kind.branch [
      | in-Substation+else-load_into-power w ↦ λ feeders power e.
          let same : w.in-Substation.power ≡ power = cc (w.in-Substation.is, kind, e) in
          omega (arith, same, w.load_into.ensures, w.if-load_into-power.false)
      | in_default w ↦ λ feeders power e. absurd (w.in_default.not-Substation feeders power (kind ∙ e))
    ])

pub returns-clause-none : goal.returns-clause-none
returns-clause-none c =
    let count = ap length c.points.ensures.value ∙ ap (λ (s : Site). length s.points) c.site-site.ensures.value in
    at_each_place (KeepsPower c.args.flows.now.site c.args.flows.now.cables) c.loop-p.p c.loop-p.invariant
    (λ p h. power_past c.args.flows.now.site c.args.flows.now.cables p (omega (arith, count)))
