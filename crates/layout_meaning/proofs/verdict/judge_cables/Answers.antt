use Rattle.std.proofs.Common.{ℕ, List, subst, sym, ap, ◌∙◌}
use Rattle.cable_definitions.specs.declared.cable.Cable.{Cable}
use Rattle.cable_definitions.specs.declared.cable.Rule.TheVariants.{Range, Overload}
use Rattle.cable_definitions.specs.Layout.{KeepsJoined, cost}
use Rattle.cable_definitions.specs.Part.{IsGrown, IsFirstBrokenOfPart}
use Rattle.layout_meaning.specs.First.{IsFirst, KeepsBelow}
use Rattle.layout_meaning.specs.Partial.{SitePart}
use Rattle.layout_meaning.specs.Verdict.{IsVerdict}
use Rattle.layout_laws.proofs.Typed.{IsLegal-grown}
use Rattle.layout_meaning.proofs.Flowing.{flows_are}
use Rattle.layout_meaning.proofs.Verdicts.{whole_early, whole_joined, unjoined_at}
use Rattle.layout_meaning.proofs.verdict.judge_cables.Goals as goal

pub returns-in-Some : goal.returns-in-Some
returns-in-Some c =
    subst (IsVerdict c.args.site.now c.args.cables.now) (sym c.broken.ensures)
    (whole_early c.args.site.now c.args.cables.now c.in-Some.breach.rule c.in-Some.breach.a c.in-Some.breach.b c.in-Some.ensures.first c.in-Some.ensures.early)

pub returns-in-Some-first_unjoined : goal.returns-in-Some-first_unjoined
returns-in-Some-first_unjoined c =
    unjoined_at c.args.site.now c.args.cables.now c.in-Some-first_unjoined.p c.in_default.ensures.none
    (subst (λ (cables : List Cable). IsFirst (KeepsJoined c.args.site.now cables) c.in-Some-first_unjoined.p) c.new-outgoing.ensures c.in-Some-first_unjoined.ensures.first)

pub breach_of_farm-requires-clause-kept : goal.breach_of_farm-requires-clause-kept
breach_of_farm-requires-clause-kept c =
    let flows = flows_are c.args.site.now c.new-outgoing.result c.args.cables.now c.new-flows.result c.new-flows.ensures c.new-outgoing.ensures in
    subst (λ (f : SitePart). KeepsBelow f.site f.cables 4) (sym flows) c.in_default.ensures.none

pub total_cost-requires-clause-range : goal.total_cost-requires-clause-range
total_cost-requires-clause-range c = λ i. c.in-None.ensures.none Range i 0 (λ x. absurd (cc))

pub total_cost-requires-clause-capacity : goal.total_cost-requires-clause-capacity
total_cost-requires-clause-capacity c = λ p. c.in-None.ensures.none Overload p 0 (λ x. absurd (cc))

pub returns-in-Some-breach_of_farm : goal.returns-in-Some-breach_of_farm
returns-in-Some-breach_of_farm c =
    let breach = c.in-Some-breach_of_farm.breach in
    let flows = flows_are c.args.site.now c.new-outgoing.result c.args.cables.now c.new-flows.result c.new-flows.ensures c.new-outgoing.ensures in
    let first = subst (λ (f : SitePart). IsFirstBrokenOfPart f.site f.cables breach.rule breach.a breach.b) flows c.in-Some-breach_of_farm.ensures.first in
    let joined = λ (p : ℕ). subst (λ (cables : List Cable). KeepsJoined c.args.site.now cables p) c.new-outgoing.ensures (c.in_default-first_unjoined.ensures.none p) in
    subst (IsVerdict c.args.site.now c.args.cables.now) (sym c.broken-in-Some-breach_of_farm.ensures)
    (whole_joined c.args.site.now c.args.cables.now breach.rule breach.a breach.b first joined)

pub returns-in-None : goal.returns-in-None
returns-in-None c =
    let flows = flows_are c.args.site.now c.new-outgoing.result c.args.cables.now c.new-flows.result c.new-flows.ensures c.new-outgoing.ensures in
    let grown = subst (λ (f : SitePart). IsGrown f.site f.cables) flows c.in-None.ensures.none in
    let joined = λ (p : ℕ). subst (λ (cables : List Cable). KeepsJoined c.args.site.now cables p) c.new-outgoing.ensures (c.in_default-first_unjoined.ensures.none p) in
    (IsLegal-grown c.args.site.now c.args.cables.now grown joined, c.total_cost.ensures ∙ ap (λ (f : SitePart). cost f.site f.cables) flows)
