use Rattle.std.proofs.Common.{◌≡◌, ◌+◌, ◌*◌, get_or, sym, ◌∙◌, arith}
use Rattle.cable_definitions.specs.declared.site.CableType.{CableType}
use Rattle.cable_definitions.specs.Arcs.{cost_of}
use Rattle.site_model.proofs.Costs.{type_is}
use Rattle.site_model.proofs.Nearest.{cost_small}
use Rattle.arc_choices.proofs.LeastUses.{cost_by_arc}
use Rattle.arc_choices.proofs.choices.cost_along.Goals as goal

pub returns-clause-cost : goal.returns-clause-cost
returns-clause-cost c =
    let none : CableType = record { capacity = 0; price = 0; loss = 0 } in
    let price = c.from.ensures in
    let loss = c.from-2.ensures in
    let load = c.from-load.ensures in
    let metres = c.from-3.ensures in
    let listed = type_is c.args.site.now c.types.result.now c.args.grade none c.types.ensures.value c.requires.bears.listed in
    (λ i. metres i * (price i + loss i * load i * load i) + c.args.arc.charge)
    ∙ sym (cost_by_arc c.args.site.now c.args.arc c.args.grade c.args.load (get_or c.types.result.now c.args.grade none) c.requires.arc listed)

pub overflow_add-result : goal.overflow_add-result
overflow_add-result c =
    let none : CableType = record { capacity = 0; price = 0; loss = 0 } in
    let price = c.from.ensures in
    let loss = c.from-2.ensures in
    let load = c.from-load.ensures in
    let metres = c.from-3.ensures in
    let listed = type_is c.args.site.now c.types.result.now c.args.grade none c.types.ensures.value c.requires.bears.listed in
    let cost : c.from-3.result * (c.from.result + c.from-2.result * c.from-load.result * c.from-load.result) + c.args.arc.charge ≡ cost_of c.args.site.now c.args.arc.from c.args.arc.to c.args.grade c.args.load =
    (λ i. metres i * (price i + loss i * load i * load i) + c.args.arc.charge)
    ∙ sym (cost_by_arc c.args.site.now c.args.arc c.args.grade c.args.load (get_or c.types.result.now c.args.grade none) c.requires.arc listed) in
    let small = cost_small c.args.site.now c.args.arc.from c.args.arc.to c.args.grade c.args.load c.types.ensures.valid c.requires.bears in
    omega (arith, cost, small)

pub returns-clause-most : goal.returns-clause-most
returns-clause-most c =
    let none : CableType = record { capacity = 0; price = 0; loss = 0 } in
    let price = c.from.ensures in
    let loss = c.from-2.ensures in
    let load = c.from-load.ensures in
    let metres = c.from-3.ensures in
    let listed = type_is c.args.site.now c.types.result.now c.args.grade none c.types.ensures.value c.requires.bears.listed in
    let cost : c.from-3.result * (c.from.result + c.from-2.result * c.from-load.result * c.from-load.result) + c.args.arc.charge ≡ cost_of c.args.site.now c.args.arc.from c.args.arc.to c.args.grade c.args.load =
    (λ i. metres i * (price i + loss i * load i * load i) + c.args.arc.charge)
    ∙ sym (cost_by_arc c.args.site.now c.args.arc c.args.grade c.args.load (get_or c.types.result.now c.args.grade none) c.requires.arc listed) in
    let small = cost_small c.args.site.now c.args.arc.from c.args.arc.to c.args.grade c.args.load c.types.ensures.valid c.requires.bears in
    omega (arith, cost, small)
