use Rattle.std.proofs.Common.{ℤ, Option, Some, sym, subst, true, refl}
use Rattle.std.specs.Prelude.{IsSome}
use Rattle.std.proofs.lemmas.List.Elements.{All-nil}
use Rattle.cable_definitions.specs.Items.{ACharge, AClosing, APair}
use Rattle.site_text.specs.declared.item.ItemRule.{ItemRule}
use Rattle.site_text.specs.Item.{rule_held}
use Rattle.site_text.specs.Adding.{Answers}
use Rattle.site_text.proofs.Changed.{BuilderAnswers, IsTold, answered, told_number}
use Rattle.site_text.proofs.add.add_pair.Goals as goal

pub returns-in-Charge : goal.returns-in-Charge
returns-in-Charge c =
    let o = c.add_pair-outcome in
    let d = c.args.builder.now in
    let e = o.new.self in
    let a = c.args.a.now in
    let b = c.args.b.now in
    let P : ℤ → Type 0 = λ w. BuilderAnswers o.result d (APair a b (ACharge (Some w))) e in
    let w : IsTold c.told.result c.in-Charge.amount = record { value = c.told.ensures.value; least = c.told.ensures.least; most = c.told.ensures.most } in
    let known = told_number P c.told.result c.in-Charge.amount w (record { good = o.ensures.good; adds = o.ensures.adds; refused = o.ensures.refused }) in
    let A : ItemRule → Type 0 = λ r. Answers c.answer.result d (APair a b (rule_held r)) e in
    subst A (sym c.in-Charge.is) (answered o.result c.are_spelled.result c.answer.result d e (APair a b (ACharge c.in-Charge.amount)) c.answer.ensures c.are_spelled.ensures known)

pub returns-in-Closing : goal.returns-in-Closing
returns-in-Closing c =
    let o = c.add_pair-outcome-in-Closing in
    let d = c.args.builder.now in
    let e = o.new.self in
    let a = c.args.a.now in
    let b = c.args.b.now in
    let A : ItemRule → Type 0 = λ r. Answers c.answer-in-Closing.result d (APair a b (rule_held r)) e in
    subst A (sym c.in-Closing.is)
    (answered o.result true c.answer-in-Closing.result d e (APair a b AClosing) c.answer-in-Closing.ensures (λ _. All-nil {X = Option ℤ} IsSome, λ _. refl) (record { good = o.ensures.good; adds = o.ensures.adds; refused = o.ensures.refused }))
