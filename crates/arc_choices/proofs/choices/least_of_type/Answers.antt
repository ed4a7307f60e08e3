use Rattle.std.proofs.Common.{◌≡◌, ℤ, arith, ap, sym, subst, ◌∙◌, get_or, pos, ◌-ℤ◌, ◌*ℤ◌, ◌*◌, ◌^◌}
use Rattle.std.specs.Int.{w128}
use Rattle.std.proofs.lemmas.Int.{to_z-of_z}
use Rattle.cable_definitions.specs.declared.site.CableType.{CableType}
use Rattle.cable_definitions.specs.Arcs.{capacity_of, capacity_from}
use Rattle.site_model.proofs.Costs.{type_is}
use Rattle.arc_choices.specs.Least.{IsBestLoad}
use Rattle.arc_choices.proofs.LeastUses.{best_of_type}
use Rattle.arc_choices.proofs.choices.least_of_type.Goals as goal

pub cost_along-cost-requires-clause-bears : goal.cost_along-cost-requires-clause-bears
cost_along-cost-requires-clause-bears c =
    let s = c.args.site.now in
    let none : CableType = record { capacity = 0; price = 0; loss = 0 } in
    let capacity = ap capacity_from (type_is s c.types.result.now c.args.grade none c.types.ensures.value c.requires.bears.listed) in
    record { listed = c.requires.bears.listed; enough = omega (arith, capacity, c.best_load-load.ensures.at_most) }

pub returns : goal.returns
returns c =
    let s = c.args.site.now in
    let a = c.args.arc in
    let u = c.args.on_use in
    let w = c.args.on_load in
    let load = c.best_load-load.result in
    let none : CableType = record { capacity = 0; price = 0; loss = 0 } in
    let capacity = (get_or c.types.result.now c.args.grade none).capacity in
    let capacity_is : capacity_of s c.args.grade ≡ capacity = ap capacity_from (type_is s c.types.result.now c.args.grade none c.types.ensures.value c.requires.bears.listed) in
    let w_is = to_z-of_z w128 w c.ranges.on_load in
    let u_is = to_z-of_z w128 u c.ranges.on_use in
    let best = subst (λ (z : ℤ). IsBestLoad c.args.least capacity z load) w_is c.best_load-load.ensures in
    let left = to_z-of_z w128 c.left_of.result (record { sfits = c.left_of.type_inv })
    ∙ (c.left_of.ensures ∙ (λ i. (pos (2 ^ 20 * c.cost_along-cost.result) -ℤ u_is i *ℤ pos 1) -ℤ w_is i *ℤ pos load)) in
    best_of_type s a u w c.args.grade c.args.least load capacity c.cost_along-cost.result _ c.types.ensures.valid c.requires.least c.requires.bears.listed (sym capacity_is) c.cost_along-cost.ensures.cost left best
