use Rattle.std.proofs.Common.{ℤ, Some, sym, subst, to_z, of_z}
use Rattle.std.specs.Int.{w128}
use Rattle.cable_definitions.specs.Items.{ATurbine, ASubstation, ABend, APoint}
use Rattle.site_text.specs.declared.item.ItemKind.{ItemKind}
use Rattle.site_text.specs.Item.{kind_held}
use Rattle.site_text.specs.Adding.{told, Answers}
use Rattle.site_text.proofs.Changed.{BuilderAnswers, IsTold, answered, told_number, told_two}
use Rattle.site_text.proofs.add.add_point.Goals as goal

pub returns-in-Turbine : goal.returns-in-Turbine
returns-in-Turbine c =
    let b = c.add_point-outcome in
    let d = c.args.builder.now in
    let e = b.new.self in
    let n = c.args.name.now in
    let P : ℤ → ℤ → Type 0 = λ u v. BuilderAnswers b.result d (APoint n (Some u) (Some v) (ATurbine (Some (to_z w128 (of_z w128 c.told.result))))) e in
    let x : IsTold c.told-in-Turbine.result c.args.x = record { value = c.told-in-Turbine.ensures.value; least = c.told-in-Turbine.ensures.least; most = c.told-in-Turbine.ensures.most } in
    let y : IsTold c.told-in-Turbine-2.result c.args.y = record { value = c.told-in-Turbine-2.ensures.value; least = c.told-in-Turbine-2.ensures.least; most = c.told-in-Turbine-2.ensures.most } in
    let placed = told_two P c.told-in-Turbine.result c.told-in-Turbine-2.result c.args.x c.args.y x y (record { good = b.ensures.good; adds = b.ensures.adds; refused = b.ensures.refused }) in
    let Q : ℤ → Type 0 = λ w. BuilderAnswers b.result d (APoint n (Some (told c.args.x)) (Some (told c.args.y)) (ATurbine (Some w))) e in
    let w : IsTold c.told.result c.in-Turbine.power = record { value = c.told.ensures.value; least = c.told.ensures.least; most = c.told.ensures.most } in
    let known = told_number Q c.told.result c.in-Turbine.power w placed in
    let same = c.in-Turbine.is in
    let A : ItemKind → Type 0 = λ k. Answers c.answer.result d (APoint c.args.name.now c.args.x c.args.y (kind_held k)) e in
    subst A (sym same) (answered b.result c.are_spelled.result c.answer.result d e (APoint n c.args.x c.args.y (ATurbine c.in-Turbine.power)) c.answer.ensures c.are_spelled.ensures known)

pub returns-in-Substation : goal.returns-in-Substation
returns-in-Substation c =
    let b = c.add_point-outcome-in-Substation in
    let d = c.args.builder.now in
    let e = b.new.self in
    let n = c.args.name.now in
    let P : ℤ → ℤ → Type 0 = λ u v. BuilderAnswers b.result d (APoint n (Some u) (Some v) (ASubstation (Some (to_z w128 (of_z w128 c.told-in-Substation.result))) (Some (to_z w128 (of_z w128 c.told-in-Substation-2.result))))) e in
    let x : IsTold c.told-in-Substation-3.result c.args.x = record { value = c.told-in-Substation-3.ensures.value; least = c.told-in-Substation-3.ensures.least; most = c.told-in-Substation-3.ensures.most } in
    let y : IsTold c.told-in-Substation-4.result c.args.y = record { value = c.told-in-Substation-4.ensures.value; least = c.told-in-Substation-4.ensures.least; most = c.told-in-Substation-4.ensures.most } in
    let placed = told_two P c.told-in-Substation-3.result c.told-in-Substation-4.result c.args.x c.args.y x y (record { good = b.ensures.good; adds = b.ensures.adds; refused = b.ensures.refused }) in
    let Q : ℤ → ℤ → Type 0 = λ v w. BuilderAnswers b.result d (APoint n (Some (told c.args.x)) (Some (told c.args.y)) (ASubstation (Some v) (Some w))) e in
    let v : IsTold c.told-in-Substation.result c.in-Substation.feeders = record { value = c.told-in-Substation.ensures.value; least = c.told-in-Substation.ensures.least; most = c.told-in-Substation.ensures.most } in
    let w : IsTold c.told-in-Substation-2.result c.in-Substation.power = record { value = c.told-in-Substation-2.ensures.value; least = c.told-in-Substation-2.ensures.least; most = c.told-in-Substation-2.ensures.most } in
    let known = told_two Q c.told-in-Substation.result c.told-in-Substation-2.result c.in-Substation.feeders c.in-Substation.power v w placed in
    let same = c.in-Substation.is in
    let A : ItemKind → Type 0 = λ k. Answers c.answer-in-Substation.result d (APoint c.args.name.now c.args.x c.args.y (kind_held k)) e in
    subst A (sym same) (answered b.result c.are_spelled-in-Substation.result c.answer-in-Substation.result d e (APoint n c.args.x c.args.y (ASubstation c.in-Substation.feeders c.in-Substation.power)) c.answer-in-Substation.ensures c.are_spelled-in-Substation.ensures known)

pub returns-in-Bend : goal.returns-in-Bend
returns-in-Bend c =
    let b = c.add_point-outcome-in-Bend in
    let d = c.args.builder.now in
    let e = b.new.self in
    let n = c.args.name.now in
    let P : ℤ → ℤ → Type 0 = λ u v. BuilderAnswers b.result d (APoint n (Some u) (Some v) ABend) e in
    let x : IsTold c.told-in-Bend.result c.args.x = record { value = c.told-in-Bend.ensures.value; least = c.told-in-Bend.ensures.least; most = c.told-in-Bend.ensures.most } in
    let y : IsTold c.told-in-Bend-2.result c.args.y = record { value = c.told-in-Bend-2.ensures.value; least = c.told-in-Bend-2.ensures.least; most = c.told-in-Bend-2.ensures.most } in
    let known = told_two P c.told-in-Bend.result c.told-in-Bend-2.result c.args.x c.args.y x y (record { good = b.ensures.good; adds = b.ensures.adds; refused = b.ensures.refused }) in
    let same = c.in-Bend.is in
    let A : ItemKind → Type 0 = λ k. Answers c.answer-in-Bend.result d (APoint c.args.name.now c.args.x c.args.y (kind_held k)) e in
    subst A (sym same) (answered b.result c.are_spelled-in-Bend.result c.answer-in-Bend.result d e (APoint n c.args.x c.args.y ABend) c.answer-in-Bend.ensures c.are_spelled-in-Bend.ensures known)
