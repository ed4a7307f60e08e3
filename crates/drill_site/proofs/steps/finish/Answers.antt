use Rattle.std.proofs.Common.{◌≡◌, Err, refl, ◌∙◌, ap}
use Rattle.cable_definitions.specs.Items.{TheEnd}
use Rattle.site_model.specs.declared.fault.BuildFault.TheVariants.{Refused, Memory}
use Rattle.drill_site.proofs.Welcome.{never_refused, IsGood-end}
use Rattle.drill_site.proofs.steps.finish.Goals as goal

pub unreachable-requires : goal.unreachable-requires
unreachable-requires c =
    let never = never_refused c.build.result c.args.builder TheEnd TheEnd refl (IsGood-end c.args.builder c.requires.stage c.requires.some_types c.requires.complete) c.build.ensures.refused in
    elim c.in-Err.field-0 as (λ f. c.in-Err.field-0 ≡ f → ⊥) [ Refused code ↦ λ e. never code (c.in-Err.is ∙ ap (λ f. Err f) e) | Memory ↦ λ e. c.build.ensures.memory (c.in-Err.is ∙ ap (λ f. Err f) e) ] refl
