use Rattle.std.proofs.Common.{◌≡◌, ◌≤◌, ◌^◌, ℤ, pos, nat_abs, to_z, of_z, Some, ap, sym, ◌∙◌, subst}
use Rattle.std.specs.Int.{w128, int_min}
use Rattle.std.proofs.lemmas.Int.{to_z-of_z}
use Rattle.cable_definitions.specs.declared.cable.Arc.{Arc}
use Rattle.cable_definitions.specs.declared.row.Mark.{Mark}
use Rattle.cable_definitions.specs.declared.row.Mark.TheVariants.{Free, Used}
use Rattle.cable_definitions.specs.Choice.{IsExtreme, AtMost}
use Rattle.arc_choices.specs.Least.{left_over}
use Rattle.arc_choices.proofs.LeastUses.{is_arc, free_left, extreme_small, extreme_read}
use Rattle.arc_choices.proofs.choices.least_choice.Goals as goal

pub least_used-requires-clause-arc : goal.least_used-requires-clause-arc
least_used-requires-clause-arc c = is_arc c.args.site.now c.args.arcs.now c.args.arc c.get-arc.result c.requires.arcs c.get-arc.ensures

pub least_used-requires-in-Free-clause-arc : goal.least_used-requires-in-Free-clause-arc
least_used-requires-in-Free-clause-arc c = is_arc c.args.site.now c.args.arcs.now c.args.arc c.get-arc.result c.requires.arcs c.get-arc.ensures

pub returns-in-Used-clause-small : goal.returns-in-Used-clause-small
returns-in-Used-clause-small c =
    let used = c.least_used.result in
    let least = extreme_read c.args.site.now c.get-arc.result Used c.args.on_use c.args.on_load used c.ranges.on_use c.ranges.on_load c.least_used.ensures in
    let small = extreme_small c.args.site.now c.get-arc.result Used c.args.on_use c.args.on_load used c.points-valid.ensures.valid c.requires.on_use c.requires.on_load least in
    subst (λ (z : ℤ). nat_abs z ≤ 10 ^ 30) (sym (to_z-of_z w128 used (record { sfits = c.least_used.type_inv }))) small

pub returns-in-Free-clause-least : goal.returns-in-Free-clause-least
returns-in-Free-clause-least c = λ a e.
    let s = c.args.site.now in
    let u = c.args.on_use in
    let w = c.args.on_load in
    let used = c.least_used-in-Free.result in
    let same : c.get-arc.result ≡ a = (let g : Some c.get-arc.result ≡ Some a = sym c.get-arc.ensures ∙ e in cc) in
    let free = free_left s c.get-arc.result u w used (extreme_read s c.get-arc.result Used u w used c.ranges.on_use c.ranges.on_load c.least_used-in-Free.ensures) in
    let read = to_z-of_z w128 c.min.result (record { sfits = c.min.type_inv })
    ∙ (c.min.ensures.value ∙ ap (λ (z : ℤ). int_min z (pos 0)) (to_z-of_z w128 used (record { sfits = c.least_used-in-Free.type_inv }))) in
    let least = subst (IsExtreme AtMost s c.get-arc.result Free (left_over s c.get-arc.result u w)) (sym read) free in
    subst (λ (mark : Mark). IsExtreme AtMost s a mark (left_over s a u w) (to_z w128 (of_z w128 c.min.result))) (sym c.in-Free.is)
    (subst (λ (b : Arc). IsExtreme AtMost s b Free (left_over s b u w) (to_z w128 (of_z w128 c.min.result))) same least)

pub returns-in-Free-clause-small : goal.returns-in-Free-clause-small
returns-in-Free-clause-small c =
    let s = c.args.site.now in
    let a = c.get-arc.result in
    let u = c.args.on_use in
    let w = c.args.on_load in
    let used = c.least_used-in-Free.result in
    let free = free_left s a u w used (extreme_read s a Used u w used c.ranges.on_use c.ranges.on_load c.least_used-in-Free.ensures) in
    let small = extreme_small s a Free u w (int_min used (pos 0)) c.points-valid.ensures.valid c.requires.on_use c.requires.on_load free in
    let read = to_z-of_z w128 c.min.result (record { sfits = c.min.type_inv })
    ∙ (c.min.ensures.value ∙ ap (λ (z : ℤ). int_min z (pos 0)) (to_z-of_z w128 used (record { sfits = c.least_used-in-Free.type_inv }))) in
    subst (λ (z : ℤ). nat_abs z ≤ 10 ^ 30) (sym read) small
