use Rattle.std.proofs.Common.{refl, sym, ℕ, List}
use Rattle.cable_definitions.specs.declared.cable.Cable.{Cable}
use Rattle.cable_definitions.specs.declared.cable.Rule.TheVariants.{Bend, Lost}
use Rattle.cable_definitions.specs.Site.{Site}
use Rattle.cable_definitions.specs.Layout.{KeepsRange, KeepsBend, KeepsEnd}
use Rattle.layout_meaning.specs.First.{IsFirst}
use Rattle.layout_meaning.proofs.Verdicts.{keeps_next, keeps_past_joined, range_of, starts_of, first_at, first_overload_at}
use Rattle.layout_meaning.proofs.Flowing.{read_as}
use Rattle.layout_meaning.proofs.breach.breach_of_walks.Goals as goal

pub returns-in-Some-clause-first : goal.returns-in-Some-clause-first
returns-in-Some-clause-first c =
    let s = c.args.flows.now.site in
    let cables = c.args.flows.now.cables in
    let joined = keeps_past_joined s cables c.requires.kept in
    first_at s cables Bend (KeepsBend s cables) c.in-Some.p _ _ (λ x. absurd (cc)) joined (λ k j x. x) (λ x. x) (refl, refl)
    (read_as (λ (t : Site) (xs : List Cable). IsFirst (KeepsBend t xs) c.in-Some.p) c.site-site.ensures.value c.outgoing-outgoing.ensures c.in-Some.ensures.first)

pub first_lost-requires : goal.first_lost-requires
first_lost-requires c = record {
  range = read_as (λ (t : Site) (xs : List Cable). (i : ℕ) → KeepsRange t xs i) (sym c.site-site.ensures.value) (sym c.outgoing-outgoing.ensures)
      (range_of c.args.flows.now.site c.args.flows.now.cables c.requires.kept);
}

pub returns-in-Some-first_lost-clause-first : goal.returns-in-Some-first_lost-clause-first
returns-in-Some-first_lost-clause-first c =
    let s = c.args.flows.now.site in
    let cables = c.args.flows.now.cables in
    let joined = keeps_past_joined s cables c.requires.kept in
    let bends = read_as (λ (t : Site) (xs : List Cable). (p : ℕ) → KeepsBend t xs p) c.site-site.ensures.value c.outgoing-outgoing.ensures c.in_default.ensures.none in
    let bend = keeps_next s cables Bend 5 refl joined (λ (i j : ℕ). bends i) in
    first_at s cables Lost (KeepsEnd s cables) c.in-Some-first_lost.p _ _ (λ x. absurd (cc)) bend (λ k j x. x) (λ x. x) (refl, refl)
    (read_as (λ (t : Site) (xs : List Cable). IsFirst (KeepsEnd t xs) c.in-Some-first_lost.p) c.site-site.ensures.value c.outgoing-outgoing.ensures c.in-Some-first_lost.ensures.first)

pub first_overloaded-requires-clause-range : goal.first_overloaded-requires-clause-range
first_overloaded-requires-clause-range c = range_of c.args.flows.now.site c.args.flows.now.cables c.requires.kept

pub first_overloaded-requires-clause-start : goal.first_overloaded-requires-clause-start
first_overloaded-requires-clause-start c = starts_of c.args.flows.now.site c.args.flows.now.cables c.requires.kept

pub returns-in-Some-first_overloaded-clause-first : goal.returns-in-Some-first_overloaded-clause-first
returns-in-Some-first_overloaded-clause-first c =
    let s = c.args.flows.now.site in
    let cables = c.args.flows.now.cables in
    let joined = keeps_past_joined s cables c.requires.kept in
    let bends = read_as (λ (t : Site) (xs : List Cable). (p : ℕ) → KeepsBend t xs p) c.site-site.ensures.value c.outgoing-outgoing.ensures c.in_default.ensures.none in
    let bend = keeps_next s cables Bend 5 refl joined (λ (i j : ℕ). bends i) in
    let walks = read_as (λ (t : Site) (xs : List Cable). (p : ℕ) → KeepsEnd t xs p) c.site-site.ensures.value c.outgoing-outgoing.ensures c.in_default-first_lost.ensures.none in
    let ends = keeps_next s cables Lost 6 refl bend (λ (i j : ℕ). walks i) in
    first_overload_at s cables c.in-Some-first_overloaded.cable ends c.in-Some-first_overloaded.ensures.first
