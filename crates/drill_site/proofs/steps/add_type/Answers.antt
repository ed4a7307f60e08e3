use Rattle.std.proofs.Common.{pos, None, subst}
use Rattle.site_model.specs.Building.{type_item}
use Rattle.cable_definitions.specs.Items.{RawItem, Adds}
use Rattle.drill_site.proofs.Welcome.{never_refused, type_passed, type_added, IsGood-drill_type, OnOk-through, OnOk-more}
use Rattle.drill_site.proofs.steps.add_type.Goals as goal

pub made-requires : goal.made-requires
made-requires c =
    let d = c.args.builder.now in
    let t = c.args.cable in
    let same = type_passed d t c.from.result c.from-2.result c.from.ensures c.from-2.ensures c.requires.in_range in
    never_refused c.add_type.result d (type_item d.site.version (pos t.capacity) (pos t.price) None) _ same (IsGood-drill_type d t c.requires.stage c.requires.version c.requires.few c.requires.in_range) c.add_type.ensures.refused

pub returns : goal.returns
returns c =
    let d = c.args.builder.now in
    let t = c.args.cable in
    let same = type_passed d t c.from.result c.from-2.result c.from.ensures c.from-2.ensures c.requires.in_range in
    OnOk-through _ c.add_type.result tt c.made.result c.made.ensures
    (OnOk-more _ _ c.add_type.result (λ added. type_added d c.add_type.new.self t c.requires.version c.requires.in_range (subst (λ (i : RawItem). Adds d i c.add_type.new.self) same added)) c.add_type.ensures.adds)
