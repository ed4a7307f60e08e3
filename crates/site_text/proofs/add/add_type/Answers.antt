use Rattle.std.proofs.Common.{ℤ, subst}
use Rattle.cable_definitions.specs.Items.{RawItem, AType}
use Rattle.site_model.specs.Building.{type_item}
use Rattle.site_text.proofs.Changed.{BuilderAnswers, IsTold, answered, told_two, told_type}
use Rattle.site_text.proofs.add.add_type.Goals as goal

pub returns : goal.returns
returns c =
    let b = c.add_type-outcome in
    let d = c.args.builder.now in
    let e = b.new.self in
    let t = c.loss_for.result in
    let item = AType c.args.capacity c.args.price c.args.loss in
    let P : ℤ → ℤ → Type 0 = λ u v. BuilderAnswers b.result d (type_item d.site.version u v t) e in
    let u : IsTold c.told.result c.args.capacity = record { value = c.told.ensures.value; least = c.told.ensures.least; most = c.told.ensures.most } in
    let v : IsTold c.told-2.result c.args.price = record { value = c.told-2.ensures.value; least = c.told-2.ensures.least; most = c.told-2.ensures.most } in
    let known = told_two P c.told.result c.told-2.result c.args.capacity c.args.price u v (record { good = b.ensures.good; adds = b.ensures.adds; refused = b.ensures.refused }) in
    let same = told_type c.args.version d.site.version c.args.capacity c.args.price c.args.loss t c.requires.version c.loss_for.ensures c.requires.loss in
    answered b.result c.are_spelled.result c.answer.result d e item c.answer.ensures c.are_spelled.ensures (subst (λ (i : RawItem). BuilderAnswers b.result d i e) same known)
