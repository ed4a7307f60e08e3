use Rattle.std.proofs.Common.{ℕ, List, length, arith, ap, ◌∙◌, subst}
use Rattle.cable_definitions.specs.declared.cable.Cable.{Cable}
use Rattle.cable_definitions.specs.Walk.{load}
use Rattle.layout_meaning.specs.Partial.{SitePart}
use Rattle.layout_meaning.proofs.Flowing.{flows_are}
use Rattle.start_layout.specs.Floors.{without, AreLeasts, AreOthersAbove}
use Rattle.start_layout.proofs.floors.floor_at.Goals as goal

pub least_costs-leasts-requires-clause-others : goal.least_costs-leasts-requires-clause-others
least_costs-leasts-requires-clause-others c =
    flows_are c.args.site.now c.new.result (without c.args.start c.args.cables.now) c.new-flows.result c.new-flows.ensures
    (c.new.ensures ∙ c.cables-2.ensures.value ∙ c.leave_out.ensures ∙ ap (without c.args.start) c.cables.ensures)

pub returns-clause-floor : goal.returns-clause-floor
returns-clause-floor c =
    let s = c.args.site.now in
    let p = c.args.start in
    let leasts = c.least_costs-leasts.result in
    let others = c.others_cost-others.result in
    let flows = flows_are s c.new.result (without p c.args.cables.now) c.new-flows.result c.new-flows.ensures
    (c.new.ensures ∙ c.cables-2.ensures.value ∙ c.leave_out.ensures ∙ ap (without p) c.cables.ensures) in
    let same = λ (r : ℕ). ap (λ (f : SitePart). load f.site f.cables r) flows in
    let points = ap (λ (f : SitePart). length f.site.points) flows in
    let above = subst (λ (xs : List Cable). (q : ℕ) → AreLeasts s xs p q leasts → AreOthersAbove s xs p q (length xs) others) c.cables-3.ensures c.others_cost-others.ensures in
    record {
      others_above = λ q. above q (c.least_costs-leasts.ensures q);
      leasts_below = c.least_costs-leasts.ensures;
      loads_below = λ r h. omega (arith, c.into_loads.ensures r (omega (arith, h, points)), same r);
      load_below = omega (arith, c.load-load.ensures.value, same p);
    }
