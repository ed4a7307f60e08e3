use Rattle.std.proofs.Common.{List, sym, subst, ◌∙◌}
use Rattle.std.specs.Prelude.{Err}
use Rattle.cable_definitions.specs.declared.cable.Cable.{Cable}
use Rattle.cable_definitions.specs.Part.{IsGrown}
use Rattle.layout_meaning.specs.Joining.{Joins, IsJoining}
use Rattle.layout_meaning.specs.Partial.{SitePart}
use Rattle.layout_meaning.proofs.Refusals.{breaks_exactly, breaks_first}
use Rattle.layout_meaning.proofs.partial.PartialLayout.try_join.Goals as goal

pub returns-in-Err-clause-breaks : goal.returns-in-Err-clause-breaks
returns-in-Err-clause-breaks c =
    let here = subst (λ (cables : List Cable). IsJoining c.self.inside.site.now cables c.args.from c.args.to (Err c.in-Err.fault)) c.cables.ensures.value c.in-Err.ensures in
    let seen = subst (λ (part : SitePart). IsJoining part.site part.cables c.args.from c.args.to (Err c.in-Err.fault)) c.self.view_is here in
    breaks_exactly c.args.self.now.site c.args.self.now.cables c.args.from c.args.to c.in-Err.fault seen

pub returns-in-Err-clause-broken_rule : goal.returns-in-Err-clause-broken_rule
returns-in-Err-clause-broken_rule c =
    let here = subst (λ (cables : List Cable). IsJoining c.self.inside.site.now cables c.args.from c.args.to (Err c.in-Err.fault)) c.cables.ensures.value c.in-Err.ensures in
    let seen = subst (λ (part : SitePart). IsJoining part.site part.cables c.args.from c.args.to (Err c.in-Err.fault)) c.self.view_is here in
    breaks_first c.args.self.now.site c.args.self.now.cables c.args.from c.args.to c.in-Err.fault seen

pub returns-in-Ok-clause-grown : goal.returns-in-Ok-clause-grown
returns-in-Ok-clause-grown c =
    let here = subst (λ (cables : List Cable). Joins c.self.inside.site.now cables c.args.from c.args.to c.in-Ok.typed) c.cables.ensures.value c.in-Ok.ensures in
    let seen = subst (λ (part : SitePart). Joins part.site part.cables c.args.from c.args.to c.in-Ok.typed) c.self.view_is here in
    subst (IsGrown c.args.self.now.site) (sym (c.replace.ensures ∙ c.as_slice.ensures.value)) seen.grown
