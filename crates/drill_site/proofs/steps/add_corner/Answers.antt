use Rattle.std.proofs.Common.{Some, subst}
use Rattle.cable_definitions.specs.Items.{RawItem, ACorner, Adds}
use Rattle.drill_site.proofs.Welcome.{never_refused, corner_passed, IsGood-clear, OnOk-through, OnOk-more}
use Rattle.drill_site.proofs.steps.add_corner.Goals as goal

pub made-requires : goal.made-requires
made-requires c =
    let d = c.args.builder.now in
    let at = c.args.at in
    let same = corner_passed at c.from.result c.from-2.result c.from.ensures c.from-2.ensures in
    never_refused c.add_corner.result d (ACorner (Some at.x) (Some at.y)) _ same (IsGood-clear d at c.requires.stage c.requires.missing c.requires.clear) c.add_corner.ensures.refused

pub returns : goal.returns
returns c =
    let same = corner_passed c.args.at c.from.result c.from-2.result c.from.ensures c.from-2.ensures in
    OnOk-through _ c.add_corner.result tt c.made.result c.made.ensures
    (OnOk-more _ _ c.add_corner.result (λ added. subst (λ (i : RawItem). Adds c.args.builder.now i c.add_corner.new.self) same added) c.add_corner.ensures.adds)
