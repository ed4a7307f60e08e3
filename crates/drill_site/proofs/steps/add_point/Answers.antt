use Rattle.std.proofs.Common.{subst}
use Rattle.cable_definitions.specs.Items.{RawItem, Adds}
use Rattle.site_model.specs.Building.{point_item}
use Rattle.drill_site.proofs.Welcome.{never_refused, point_passed, IsGood-apart, Gains-added, OnOk-through, OnOk-more, TakesPoints-gains}
use Rattle.drill_site.proofs.steps.add_point.Goals as goal

pub made-requires : goal.made-requires
made-requires c =
    let d = c.args.builder.now in
    let at = c.args.at in
    let same = point_passed c.args.name.now at c.raw_of.result c.from.result c.from-2.result c.from.ensures c.from-2.ensures in
    never_refused c.add_point.result d (point_item c.args.name.now at.x at.y c.raw_of.result) _ same (IsGood-apart d c.args.name.now at c.args.kind c.raw_of.result c.requires.takes c.requires.named c.requires.kind c.raw_of.ensures c.requires.few c.requires.apart) c.add_point.ensures.refused

pub returns-clause-gains : goal.returns-clause-gains
returns-clause-gains c =
    let d = c.args.builder.now in
    let at = c.args.at in
    let same = point_passed c.args.name.now at c.raw_of.result c.from.result c.from-2.result c.from.ensures c.from-2.ensures in
    OnOk-through _ c.add_point.result tt c.made.result c.made.ensures
    (OnOk-more _ _ c.add_point.result (λ added. Gains-added d c.add_point.new.self c.args.name.now at c.args.kind c.raw_of.result c.raw_of.ensures (subst (λ (i : RawItem). Adds d i c.add_point.new.self) same added)) c.add_point.ensures.adds)

pub returns-clause-takes : goal.returns-clause-takes
returns-clause-takes c =
    let d = c.args.builder.now in
    let at = c.args.at in
    let same = point_passed c.args.name.now at c.raw_of.result c.from.result c.from-2.result c.from.ensures c.from-2.ensures in
    OnOk-through _ c.add_point.result tt c.made.result c.made.ensures
    (OnOk-more _ _ c.add_point.result (λ added. TakesPoints-gains d c.add_point.new.self c.args.name.now at.x at.y c.args.kind c.requires.takes
    (Gains-added d c.add_point.new.self c.args.name.now at c.args.kind c.raw_of.result c.raw_of.ensures (subst (λ (i : RawItem). Adds d i c.add_point.new.self) same added))) c.add_point.ensures.adds)
