use Rattle.std.proofs.Common.{◌≡◌, ℕ, ◌∙◌, ap, sym, subst, arith}
use Rattle.std.proofs.lemmas.Option.{slice_get_within}
use Rattle.number_laws.proofs.Places.{same_item}
use Rattle.cable_definitions.specs.declared.cable.Arc.{Arc}
use Rattle.cable_definitions.specs.Arcs.{IsCandidate, Bears, power_of, power_of_kind, kind_from}
use Rattle.layout_laws.proofs.Typing.{all-at}
use Rattle.layout_laws.proofs.Straightest.{arc-borne}
use Rattle.site_model.proofs.Nearest.{cost_small}
use Rattle.candidate_cables.specs.OwnCosts.{IsOwnCost}
use Rattle.candidate_cables.proofs.Candidates.{point_at}
use Rattle.candidate_cables.proofs.Measuring.{measured_at}
use Rattle.candidate_cables.proofs.OwnCosts.{own_cost, is_some}
use Rattle.candidate_cables.proofs.own_costs.own_cost.Goals as goal

pub cheapest_on-requires : goal.cheapest_on-requires
cheapest_on-requires c = measured_at c.args.site.now c.args.arcs.now c.args.number c.get-arc.result c.requires.arcs c.get-arc.ensures

pub unwrap-cost-requires : goal.unwrap-cost-requires
unwrap-cost-requires c =
    let s = c.args.site.now in
    let arcs = c.args.arcs.now in
    let arc = c.get-arc.result in
    let candidate = all-at (λ (a : Arc). IsCandidate s a.from a.to) arcs c.args.number arc c.requires.arcs.candidates c.get-arc.ensures in
    let point = point_at s c.points.result.now arc.from c.index-points-arc.result c.points.ensures.value (slice_get_within s.points arc.from candidate.from candidate.from_is) in
    let power : c.power-power.result ≡ power_of s arc.from = c.power-power.ensures.power ∙ ap power_of_kind (sym (ap kind_from point)) in
    let borne = arc-borne s arc.from arc.to c.points.ensures.valid.some_types candidate in
    is_some c.cheapest_on.result ((grade : ℕ) → ¬ (Bears s grade c.power-power.result)) c.cheapest_on.ensures.none
    (λ none. none borne.0 (subst (λ (load : ℕ). Bears s borne.0 load) (sym power) borne.1))

pub returns : goal.returns
returns c =
    let s = c.args.site.now in
    let arcs = c.args.arcs.now in
    let arc = c.get-arc.result in
    let candidate = all-at (λ (a : Arc). IsCandidate s a.from a.to) arcs c.args.number arc c.requires.arcs.candidates c.get-arc.ensures in
    let point = point_at s c.points.result.now arc.from c.index-points-arc.result c.points.ensures.value (slice_get_within s.points arc.from candidate.from candidate.from_is) in
    let power = c.power-power.ensures.power ∙ ap power_of_kind (sym (ap kind_from point)) in
    let grade = rw c.unwrap-cost.ensures at c.cheapest_on.ensures.grade in
    let cost = rw c.unwrap-cost.ensures at c.cheapest_on.ensures.cost in
    record {
      cost = λ a e. subst (λ (b : Arc). IsOwnCost s b c.unwrap-cost.result.1) (same_item arcs c.args.number arc a c.get-arc.ensures e)
          (own_cost s arc c.power-power.result c.unwrap-cost.result.0 c.unwrap-cost.result.1 power grade cost);
      small = omega (arith, cost, cost_small s arc.from arc.to c.unwrap-cost.result.0 c.power-power.result c.points.ensures.valid grade.bears);
    }
