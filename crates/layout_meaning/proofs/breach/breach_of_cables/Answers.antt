use Rattle.std.proofs.Common.{refl}
use Rattle.cable_definitions.specs.declared.cable.Rule.TheVariants.{Range}
use Rattle.cable_definitions.specs.Layout.{KeepsRange}
use Rattle.layout_meaning.proofs.Verdicts.{keeps_none, keeps_range, keeps_candidate, first_at, first_candidate_at, first_start_at}
use Rattle.layout_meaning.proofs.breach.breach_of_cables.Goals as goal

pub returns-in-Some-clause-first : goal.returns-in-Some-clause-first
returns-in-Some-clause-first c = first_at c.args.site.now c.args.cables.now Range (KeepsRange c.args.site.now c.args.cables.now) c.in-Some.i _ _ (λ x. absurd (cc)) (keeps_none c.args.site.now c.args.cables.now) (λ k j x. x) (λ x. x) (refl, refl) c.in-Some.ensures.first

pub returns-in-Some-first_no_candidate-clause-first : goal.returns-in-Some-first_no_candidate-clause-first
returns-in-Some-first_no_candidate-clause-first c = first_candidate_at c.args.site.now c.args.cables.now c.in-Some-first_no_candidate.cable (keeps_range c.args.site.now c.args.cables.now c.in_default.ensures.none) c.in-Some-first_no_candidate.ensures.first

pub returns-in-Some-first_repeated_start-clause-first : goal.returns-in-Some-first_repeated_start-clause-first
returns-in-Some-first_repeated_start-clause-first c = first_start_at c.args.site.now c.args.cables.now c.in-Some-first_repeated_start.cable (keeps_candidate c.args.site.now c.args.cables.now c.in_default.ensures.none c.in_default-first_no_candidate.ensures.none) c.in-Some-first_repeated_start.ensures.first
