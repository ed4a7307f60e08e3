use Rattle.std.proofs.Common.{ℤ, arith, ap, sym, subst, ◌∙◌, ◌+◌, to_z, of_z}
use Rattle.std.specs.Int.{w128}
use Rattle.std.proofs.lemmas.Int.{to_z-of_z}
use Rattle.cable_definitions.specs.declared.site.CableType.{CableType}
use Rattle.cable_definitions.specs.Arcs.{capacity_from}
use Rattle.site_model.proofs.Costs.{type_is}
use Rattle.arc_choices.specs.Least.{IsLeastOfType, IsLeastOfTypes, lesser_left}
use Rattle.arc_choices.proofs.LeastUses.{type_unborne, type_more}
use Rattle.arc_choices.proofs.choices.lesser_with_type.Goals as goal

pub returns-then-load-types : goal.returns-then-load-types
returns-then-load-types c =
    let s = c.args.site.now in
    let none : CableType = record { capacity = 0; price = 0; loss = 0 } in
    let capacity = ap capacity_from (type_is s c.types.result.now c.args.grade none c.types.ensures.value c.requires.grade) in
    type_unborne s c.args.arc c.args.on_use c.args.on_load c.args.grade c.args.load c.args.least c.requires.load (omega (arith, capacity, c.if-load-types.true)) c.requires.least

pub least_of_type-left-requires-clause-bears : goal.least_of_type-left-requires-clause-bears
least_of_type-left-requires-clause-bears c =
    let s = c.args.site.now in
    let none : CableType = record { capacity = 0; price = 0; loss = 0 } in
    let capacity = ap capacity_from (type_is s c.types.result.now c.args.grade none c.types.ensures.value c.requires.grade) in
    record { listed = c.requires.grade; enough = omega (arith, capacity, c.if-load-types.false) }

pub returns : goal.returns
returns c =
    let s = c.args.site.now in
    let a = c.args.arc in
    let u = c.args.on_use in
    let w = c.args.on_load in
    let left = c.least_of_type-left.result in
    let own = subst (λ (z : ℤ). IsLeastOfType s a u z c.args.grade left) (to_z-of_z w128 w c.ranges.on_load)
    (subst (λ (z : ℤ). IsLeastOfType s a z (to_z w128 (of_z w128 w)) c.args.grade left) (to_z-of_z w128 u c.ranges.on_use) c.least_of_type-left.ensures) in
    let read = to_z-of_z w128 c.lesser.result (record { sfits = c.lesser.type_inv })
    ∙ (c.lesser.ensures ∙ ap (lesser_left c.args.least) (to_z-of_z w128 left (record { sfits = c.least_of_type-left.type_inv }))) in
    subst (IsLeastOfTypes s a u w (c.args.grade + 1)) (sym read) (type_more s a u w c.args.grade c.args.least left own c.requires.least)
