use Rattle.std.proofs.Common.{◌≡◌, List, ◌++◌, [], ◌∷◌, map, sym, ap, ◌∙◌, subst, arith}
use Rattle.cable_definitions.specs.declared.site.Point.{Point}
use Rattle.cable_definitions.specs.declared.site.SiteCode.TheVariants.{SameName}
use Rattle.cable_definitions.specs.Items.{Draft, IsGood, IsFirstCode}
use Rattle.site_model.specs.Building.{point_item}
use Rattle.site_model.specs.Drafts.{item_of_point}
use Rattle.site_model.specs.Numbered.{names_in}
use Rattle.site_model.proofs.Numbered.{unknown_name, numbered_push}
use Rattle.site_model.proofs.Ranges.{passed_two}
use Rattle.site_model.proofs.Codes.{refused_exactly, OnOk-at, OnErr-at}
use Rattle.site_model.proofs.Points.{IsDraft-pushed_point, Adds-pushed_point}
use Rattle.site_model.proofs.builder.SiteBuilder.add_point.Goals as goal

pub returns-in-Err-clause-refused : goal.returns-in-Err-clause-refused
returns-in-Err-clause-refused c =
    let old = c.args.self.now in
    let name = c.args.name.now in
    let first = passed_two (λ x y. IsFirstCode old (point_item name x y c.args.kind) c.in-Err.code) c.args.x c.args.y c.ranges.x c.ranges.y c.in-Err.ensures.code in
    refused_exactly old (point_item name c.args.x c.args.y c.args.kind) c.in-Err.code first

pub add_name-requires : goal.add_name-requires
add_name-requires c =
    let old = c.args.self.now in
    let name = c.args.name.now in
    let good = passed_two (λ x y. IsGood old (point_item name x y c.args.kind)) c.args.x c.args.y c.ranges.x c.ranges.y c.in-Ok.ensures.good in
    let numbered = subst (λ (d : Draft). names_in c.self.inside.names.keys ≡ map (λ p. p.name) d.site.points) c.self.view_is c.self.invariant.numbered in
    unknown_name old.site.points (names_in c.self.inside.names.keys) name numbered (good SameName)

pub push_reserved-requires : goal.push_reserved-requires
push_reserved-requires c =
    let room = OnOk-at c.reserve.result (sym c.is_err.ensures.value ∙ c.if-is_err.false) c.reserve.ensures.ok in
    omega (arith, room)

pub invariant_of-self-then-is_err-2 : goal.invariant_of-self-then-is_err-2
invariant_of-self-then-is_err-2 c =
    let kept = OnErr-at c.add_name.result (sym c.is_err-2.ensures.value ∙ c.if-is_err-2.true) c.add_name.ensures.unchanged in
    rw (c.reserve.ensures.items, kept) c.self.invariant

pub invariant_of-self-2 : goal.invariant_of-self-2
invariant_of-self-2 c =
    let old = c.args.self.now in
    let name = c.args.name.now in
    let p = c.in-Ok.point in
    let pushed : c.push_reserved.new.self.items ≡ c.self.inside.points.items ++ p ∷ [] = c.push_reserved.ensures.items ∙ ap (λ (ps : List Point). ps ++ p ∷ []) c.reserve.ensures.items in
    let good = passed_two (λ x y. IsGood old (point_item name x y c.args.kind)) c.args.x c.args.y c.ranges.x c.ranges.y c.in-Ok.ensures.good in
    let item = passed_two (λ x y. point_item name x y c.args.kind ≡ item_of_point p) c.args.x c.args.y c.ranges.x c.ranges.y c.in-Ok.ensures.item in
    let named : p.name ≡ name = cc item in
    let added = OnOk-at c.add_name.result (sym c.is_err-2.ensures.value ∙ c.if-is_err-2.false) c.add_name.ensures.added in
    record {
      draft = IsDraft-pushed_point _ old (point_item name c.args.x c.args.y c.args.kind) p c.push_reserved.new.self.items c.self.view_is c.self.invariant.draft good item pushed;
      corners_fit = c.self.invariant.corners_fit;
      obstacle_fits = c.self.invariant.obstacle_fits;
      table = c.self.invariant.table;
      numbered = numbered_push c.self.inside.points.items c.push_reserved.new.self.items p (names_in c.self.inside.names.keys) (names_in c.add_name.new.names.keys) name c.self.invariant.numbered added named pushed;
    }

pub returns-clause-adds : goal.returns-clause-adds
returns-clause-adds c =
    let old = c.args.self.now in
    let name = c.args.name.now in
    let p = c.in-Ok.point in
    let pushed : c.push_reserved.new.self.items ≡ c.self.inside.points.items ++ p ∷ [] = c.push_reserved.ensures.items ∙ ap (λ (ps : List Point). ps ++ p ∷ []) c.reserve.ensures.items in
    let item = passed_two (λ x y. point_item name x y c.args.kind ≡ item_of_point p) c.args.x c.args.y c.ranges.x c.ranges.y c.in-Ok.ensures.item in
    Adds-pushed_point _ old (point_item name c.args.x c.args.y c.args.kind) p c.push_reserved.new.self.items c.self.view_is item pushed
