use Rattle.std.proofs.Common.{List, IsTrue, ◌↔◌, sym, subst, ◌∙◌}
use Rattle.cable_definitions.specs.declared.cable.Cable.{Cable}
use Rattle.cable_definitions.specs.Part.{IsGrown}
use Rattle.layout_meaning.specs.Joining.{IsUnjoined, CanJoin}
use Rattle.layout_meaning.proofs.Refusals.{where_none, blocked_or_not}
use Rattle.layout_meaning.proofs.part.part_blocked.Goals as goal

pub returns : goal.returns
returns c =
    let same = c.cables-cables.ensures.value in
    let none = where_none (IsGrown c.args.site.now c.cables-cables.result.now) c.first_breach_of_part.result (sym c.is_some.ensures ∙ c.if-is_some.false) c.first_breach_of_part.ensures.none in
    let unjoined = c.is_unjoined.ensures.0 c.if-not-is_unjoined.false in
    blocked_or_not c.args.site.now c.args.part.now c.args.turbine c.can_join.result
    (subst (IsGrown c.args.site.now) same none)
    (subst (λ (part : List Cable). IsUnjoined c.args.site.now part c.args.turbine) (c.new.ensures ∙ same) unjoined)
    (subst (λ (part : List Cable). IsTrue c.can_join.result ↔ CanJoin c.args.site.now part c.args.turbine) same c.can_join.ensures)
