use Rattle.std.proofs.Common.{length, ap, sym, refl, arith, ◌∙◌}
use Rattle.std.proofs.lemmas.Bool.{false≢true}
use Rattle.cable_definitions.specs.declared.site.SiteCode.TheVariants.{SameName, SamePlace, TooMany}
use Rattle.cable_definitions.specs.Items.{Draft}
use Rattle.site_model.specs.Building.{point_item}
use Rattle.site_model.proofs.Codes.{KeepsBelow-past, IsFirstCode-at}
use Rattle.site_model.proofs.Points.{IsFirstCode-place, IsFirstCode-kind, IsFirstCode-bad_name, IsGood-point}
use Rattle.site_model.proofs.Building.{KeepsBelow-point_read, KeepsBelow-point_named, KeepsBelow-point_alone, IsAt-where}
use Rattle.site_model.proofs.Passed.{denied}
use Rattle.site_model.proofs.builder.SiteBuilder.new_point.Goals as goal

pub returns-in_default-clause-code : goal.returns-in_default-clause-code
returns-in_default-clause-code c =
    IsFirstCode-place c.args.self.now c.args.name.now c.args.x c.args.y c.args.kind (sym c.takes_points.ensures ∙ c.if-not-takes_points.false) c.ranges.x c.ranges.y c.in_default.ensures

pub returns-in_default-kind_of-clause-code : goal.returns-in_default-kind_of-clause-code
returns-in_default-kind_of-clause-code c =
    IsFirstCode-kind c.args.self.now c.args.name.now c.args.x c.args.y c.args.kind (sym c.takes_points.ensures ∙ c.if-not-takes_points.false) c.in_default-kind_of.ensures

pub returns-in_default-new-clause-code : goal.returns-in_default-new-clause-code
returns-in_default-new-clause-code c =
    let kept = KeepsBelow-point_read c.args.self.now c.args.name.now c.args.x c.args.y c.args.kind c.in-Some.at c.in-Some-kind_of.kind (sym c.takes_points.ensures ∙ c.if-not-takes_points.false) c.ranges.x c.ranges.y c.in-Some.ensures c.in-Some-kind_of.ensures in
    IsFirstCode-bad_name c.args.self.now c.args.name.now c.args.x c.args.y c.args.kind kept (λ is_name. false≢true (c.in_default-new.ensures.valid.1 is_name))

pub returns-then-has_name-clause-code : goal.returns-then-has_name-clause-code
returns-then-has_name-clause-code c =
    let kept = KeepsBelow-point_named c.args.self.now c.args.name.now c.args.x c.args.y c.args.kind c.in-Some.at c.in-Some-kind_of.kind (sym c.takes_points.ensures ∙ c.if-not-takes_points.false) c.ranges.x c.ranges.y c.in-Some.ensures c.in-Some-kind_of.ensures (c.in-Some-new.ensures.valid.0 refl) in
    IsFirstCode-at _ _ SameName kept (c.has_name.ensures.0 c.if-has_name.true)

pub returns-then-has_place-clause-code : goal.returns-then-has_place-clause-code
returns-then-has_place-clause-code c =
    let kept = KeepsBelow-point_named c.args.self.now c.args.name.now c.args.x c.args.y c.args.kind c.in-Some.at c.in-Some-kind_of.kind (sym c.takes_points.ensures ∙ c.if-not-takes_points.false) c.ranges.x c.ranges.y c.in-Some.ensures c.in-Some-kind_of.ensures (c.in-Some-new.ensures.valid.0 refl) in
    let placed = IsAt-where _ c.args.self.now c.args.x c.args.y c.in-Some.at c.as_slice.result.now _ c.self.view_is c.as_slice.ensures.value c.ranges.x c.ranges.y c.in-Some.ensures c.has_place.ensures in
    IsFirstCode-at _ _ SamePlace (KeepsBelow-past c.args.self.now (point_item c.args.name.now c.args.x c.args.y c.args.kind) SameName kept (denied _ c.has_name.ensures c.if-has_name.false)) (placed.0 c.if-has_place.true)

pub returns-then-len-ge256-clause-code : goal.returns-then-len-ge256-clause-code
returns-then-len-ge256-clause-code c =
    let kept = KeepsBelow-point_named c.args.self.now c.args.name.now c.args.x c.args.y c.args.kind c.in-Some.at c.in-Some-kind_of.kind (sym c.takes_points.ensures ∙ c.if-not-takes_points.false) c.ranges.x c.ranges.y c.in-Some.ensures c.in-Some-kind_of.ensures (c.in-Some-new.ensures.valid.0 refl) in
    let alone = KeepsBelow-point_alone _ c.args.self.now c.args.name.now c.args.x c.args.y c.args.kind c.in-Some.at c.as_slice.result.now _ _ kept c.has_name.ensures c.if-has_name.false c.self.view_is c.as_slice.ensures.value c.ranges.x c.ranges.y c.in-Some.ensures c.has_place.ensures c.if-has_place.false in
    let count = ap (λ (e : Draft). length e.site.points) c.self.view_is in
    IsFirstCode-at _ _ TooMany alone (omega (arith, count, c.len.ensures, c.self.inside.points.ok.0))

pub returns-clause-good : goal.returns-clause-good
returns-clause-good c =
    let kept = KeepsBelow-point_named c.args.self.now c.args.name.now c.args.x c.args.y c.args.kind c.in-Some.at c.in-Some-kind_of.kind (sym c.takes_points.ensures ∙ c.if-not-takes_points.false) c.ranges.x c.ranges.y c.in-Some.ensures c.in-Some-kind_of.ensures (c.in-Some-new.ensures.valid.0 refl) in
    let alone = KeepsBelow-point_alone _ c.args.self.now c.args.name.now c.args.x c.args.y c.args.kind c.in-Some.at c.as_slice.result.now _ _ kept c.has_name.ensures c.if-has_name.false c.self.view_is c.as_slice.ensures.value c.ranges.x c.ranges.y c.in-Some.ensures c.has_place.ensures c.if-has_place.false in
    let count = ap (λ (e : Draft). length e.site.points) c.self.view_is in
    IsGood-point c.args.self.now c.args.name.now c.args.x c.args.y c.args.kind alone (omega (arith, count, c.len.ensures, c.self.inside.points.ok.0))
