use Rattle.std.proofs.Common.{inl, inr, ap, sym, ◌∙◌}
use Rattle.cable_definitions.specs.declared.site.SiteCode.TheVariants.{UnknownName, SamePair}
use Rattle.cable_definitions.specs.Text.{name_of}
use Rattle.site_model.proofs.Codes.{IsFirstCode-at}
use Rattle.site_model.proofs.Building.{KeepsBelow-pair_read, KeepsBelow-pair_found, IsOnNames-where, IsGood-unruled}
use Rattle.site_model.proofs.builder.SiteBuilder.new_pair.Goals as goal

pub returns-in_default-number_of-clause-code : goal.returns-in_default-number_of-clause-code
returns-in_default-number_of-clause-code c =
    let kept = KeepsBelow-pair_read c.args.self.now c.args.a.now c.args.b.now c.args.amount c.in-Some.rule (sym c.takes_pairs.ensures ∙ c.if-not-takes_pairs.false) c.in-Some.ensures (c.is_name.ensures.0 c.if-not-is_name.false) (c.is_name-2.ensures.0 c.if-not-is_name-2.false) in
    IsFirstCode-at _ _ UnknownName kept (inl c.in_default-number_of.ensures)

pub returns-in_default-number_of-2-clause-code : goal.returns-in_default-number_of-2-clause-code
returns-in_default-number_of-2-clause-code c =
    let kept = KeepsBelow-pair_read c.args.self.now c.args.a.now c.args.b.now c.args.amount c.in-Some.rule (sym c.takes_pairs.ensures ∙ c.if-not-takes_pairs.false) c.in-Some.ensures (c.is_name.ensures.0 c.if-not-is_name.false) (c.is_name-2.ensures.0 c.if-not-is_name-2.false) in
    IsFirstCode-at _ _ UnknownName kept (inr c.in_default-number_of-2.ensures)

pub returns-then-first-second-clause-code : goal.returns-then-first-second-clause-code
returns-then-first-second-clause-code c =
    let first = c.in-Some-number_of.ensures in
    let second = c.in-Some-number_of-2.ensures in
    let kept = KeepsBelow-pair_read c.args.self.now c.args.a.now c.args.b.now c.args.amount c.in-Some.rule (sym c.takes_pairs.ensures ∙ c.if-not-takes_pairs.false) c.in-Some.ensures (c.is_name.ensures.0 c.if-not-is_name.false) (c.is_name-2.ensures.0 c.if-not-is_name-2.false) in
    IsFirstCode-at _ _ SamePair (KeepsBelow-pair_found c.args.self.now c.args.a.now c.args.b.now c.args.amount _ _ kept first second)
    (inl (sym first.1 ∙ ap (name_of c.args.self.now.site) c.if-first-second.true ∙ second.1))

pub returns-then-has_rule-clause-code : goal.returns-then-has_rule-clause-code
returns-then-has_rule-clause-code c =
    let first = c.in-Some-number_of.ensures in
    let second = c.in-Some-number_of-2.ensures in
    let kept = KeepsBelow-pair_read c.args.self.now c.args.a.now c.args.b.now c.args.amount c.in-Some.rule (sym c.takes_pairs.ensures ∙ c.if-not-takes_pairs.false) c.in-Some.ensures (c.is_name.ensures.0 c.if-not-is_name.false) (c.is_name-2.ensures.0 c.if-not-is_name-2.false) in
    IsFirstCode-at _ _ SamePair (KeepsBelow-pair_found c.args.self.now c.args.a.now c.args.b.now c.args.amount _ _ kept first second)
    (inr ((IsOnNames-where _ c.args.self.now _ _ c.self.inside.rules.items _ _ c.args.a.now c.args.b.now c.in-Some-number_of.first c.in-Some-number_of-2.second _ c.self.view_is c.self.invariant first second c.as_slice.ensures.value c.has_rule.ensures).0 c.if-has_rule.true))

pub returns-clause-good : goal.returns-clause-good
returns-clause-good c =
    let first = c.in-Some-number_of.ensures in
    let second = c.in-Some-number_of-2.ensures in
    let kept = KeepsBelow-pair_read c.args.self.now c.args.a.now c.args.b.now c.args.amount c.in-Some.rule (sym c.takes_pairs.ensures ∙ c.if-not-takes_pairs.false) c.in-Some.ensures (c.is_name.ensures.0 c.if-not-is_name.false) (c.is_name-2.ensures.0 c.if-not-is_name-2.false) in
    IsGood-unruled _ c.args.self.now _ _ c.self.inside.rules.items _ _ c.args.a.now c.args.b.now c.args.amount c.in-Some-number_of.first c.in-Some-number_of-2.second _ c.self.view_is c.self.invariant
    (KeepsBelow-pair_found c.args.self.now c.args.a.now c.args.b.now c.args.amount _ _ kept first second) first second c.if-first-second.false c.as_slice.ensures.value c.has_rule.ensures c.if-has_rule.false
