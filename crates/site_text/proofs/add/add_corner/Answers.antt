use Rattle.std.proofs.Common.{ℤ, Some}
use Rattle.cable_definitions.specs.Items.{ACorner}
use Rattle.site_text.proofs.Changed.{BuilderAnswers, IsTold, answered, told_two}
use Rattle.site_text.proofs.add.add_corner.Goals as goal

pub returns : goal.returns
returns c =
    let b = c.add_corner-outcome in
    let d = c.args.builder.now in
    let e = b.new.self in
    let P : ℤ → ℤ → Type 0 = λ u v. BuilderAnswers b.result d (ACorner (Some u) (Some v)) e in
    let x : IsTold c.told.result c.args.x = record { value = c.told.ensures.value; least = c.told.ensures.least; most = c.told.ensures.most } in
    let y : IsTold c.told-2.result c.args.y = record { value = c.told-2.ensures.value; least = c.told-2.ensures.least; most = c.told-2.ensures.most } in
    let known = told_two P c.told.result c.told-2.result c.args.x c.args.y x y (record { good = b.ensures.good; adds = b.ensures.adds; refused = b.ensures.refused }) in
    answered b.result c.are_spelled.result c.answer.result d e (ACorner c.args.x c.args.y) c.answer.ensures c.are_spelled.ensures known
