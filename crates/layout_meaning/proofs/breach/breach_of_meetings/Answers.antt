use Rattle.std.proofs.Common.{List, sym, refl, arith, ℕ}
use Rattle.cable_definitions.specs.declared.cable.Cable.{Cable}
use Rattle.cable_definitions.specs.declared.cable.Rule.TheVariants.{Feeders, Power, Branch, Clash}
use Rattle.cable_definitions.specs.Site.{Site}
use Rattle.cable_definitions.specs.Layout.{KeepsRange, KeepsStart, KeepsFeeders, KeepsPower, KeepsString, KeepsClear}
use Rattle.layout_meaning.specs.First.{IsFirst, IsFirstPair}
use Rattle.layout_meaning.proofs.Verdicts.{keeps_next, keeps_fewer, range_of, starts_of, first_at, first_clash_at}
use Rattle.layout_meaning.proofs.Flowing.{read_as}
use Rattle.layout_meaning.proofs.breach.breach_of_meetings.Goals as goal

pub returns-in-Some-clause-first : goal.returns-in-Some-clause-first
returns-in-Some-clause-first c =
    let s = c.args.flows.now.site in
    let cables = c.args.flows.now.cables in
    first_at s cables Feeders (KeepsFeeders s cables) c.in-Some.p _ _ (λ x. absurd (cc)) c.requires.kept (λ k j x. x) (λ x. x) (refl, refl)
    (read_as (λ (t : Site) (xs : List Cable). IsFirst (KeepsFeeders t xs) c.in-Some.p) c.site-site.ensures.value c.outgoing-outgoing.ensures c.in-Some.ensures.first)

pub first_overpowered-requires-clause-range : goal.first_overpowered-requires-clause-range
first_overpowered-requires-clause-range c =
    range_of c.args.flows.now.site c.args.flows.now.cables (keeps_fewer c.args.flows.now.site c.args.flows.now.cables 4 8 (omega arith) c.requires.kept)

pub returns-in-Some-first_overpowered-clause-first : goal.returns-in-Some-first_overpowered-clause-first
returns-in-Some-first_overpowered-clause-first c =
    let s = c.args.flows.now.site in
    let cables = c.args.flows.now.cables in
    let few = read_as (λ (t : Site) (xs : List Cable). (p : ℕ) → KeepsFeeders t xs p) c.site-site.ensures.value c.outgoing-outgoing.ensures c.in_default.ensures.none in
    let feeders = keeps_next s cables Feeders 8 refl c.requires.kept (λ (i j : ℕ). few i) in
    first_at s cables Power (KeepsPower s cables) c.in-Some-first_overpowered.p _ _ (λ x. absurd (cc)) feeders (λ k j x. x) (λ x. x) (refl, refl) c.in-Some-first_overpowered.ensures.first

pub returns-in-Some-first_branched-clause-first : goal.returns-in-Some-first_branched-clause-first
returns-in-Some-first_branched-clause-first c =
    let s = c.args.flows.now.site in
    let cables = c.args.flows.now.cables in
    let few = read_as (λ (t : Site) (xs : List Cable). (p : ℕ) → KeepsFeeders t xs p) c.site-site.ensures.value c.outgoing-outgoing.ensures c.in_default.ensures.none in
    let feeders = keeps_next s cables Feeders 8 refl c.requires.kept (λ (i j : ℕ). few i) in
    let power = keeps_next s cables Power 9 refl feeders (λ (i j : ℕ). c.in_default-first_overpowered.ensures.none i) in
    first_at s cables Branch (KeepsString s cables) c.in-Some-first_branched.p _ _ (λ x. absurd (cc)) power (λ k j x. x) (λ x. x) (refl, refl)
    (read_as (λ (t : Site) (xs : List Cable). IsFirst (KeepsString t xs) c.in-Some-first_branched.p) c.site-site.ensures.value c.outgoing-outgoing.ensures c.in-Some-first_branched.ensures.first)

pub first_clash-requires-clause-range : goal.first_clash-requires-clause-range
first_clash-requires-clause-range c =
    read_as (λ (t : Site) (xs : List Cable). (i : ℕ) → KeepsRange t xs i) (sym c.site-site.ensures.value) (sym c.outgoing-outgoing.ensures)
    (range_of c.args.flows.now.site c.args.flows.now.cables (keeps_fewer c.args.flows.now.site c.args.flows.now.cables 4 8 (omega arith) c.requires.kept))

pub first_clash-requires-clause-start : goal.first_clash-requires-clause-start
first_clash-requires-clause-start c =
    read_as (λ (t : Site) (xs : List Cable). (i : ℕ) → KeepsStart xs i) (sym c.site-site.ensures.value) (sym c.outgoing-outgoing.ensures)
    (starts_of c.args.flows.now.site c.args.flows.now.cables (keeps_fewer c.args.flows.now.site c.args.flows.now.cables 4 8 (omega arith) c.requires.kept))

pub returns-in-Some-first_clash-clause-first : goal.returns-in-Some-first_clash-clause-first
returns-in-Some-first_clash-clause-first c =
    let s = c.args.flows.now.site in
    let cables = c.args.flows.now.cables in
    let few = read_as (λ (t : Site) (xs : List Cable). (p : ℕ) → KeepsFeeders t xs p) c.site-site.ensures.value c.outgoing-outgoing.ensures c.in_default.ensures.none in
    let feeders = keeps_next s cables Feeders 8 refl c.requires.kept (λ (i j : ℕ). few i) in
    let power = keeps_next s cables Power 9 refl feeders (λ (i j : ℕ). c.in_default-first_overpowered.ensures.none i) in
    let lines = read_as (λ (t : Site) (xs : List Cable). (p : ℕ) → KeepsString t xs p) c.site-site.ensures.value c.outgoing-outgoing.ensures c.in_default-first_branched.ensures.none in
    let string = keeps_next s cables Branch 10 refl power (λ (i j : ℕ). lines i) in
    first_clash_at s cables c.in-Some-first_clash.a c.in-Some-first_clash.b string
    (read_as (λ (t : Site) (xs : List Cable). IsFirstPair (KeepsClear t xs) c.in-Some-first_clash.a c.in-Some-first_clash.b) c.site-site.ensures.value c.outgoing-outgoing.ensures c.in-Some-first_clash.ensures.first)

pub returns-clause-none : goal.returns-clause-none
returns-clause-none c =
    let s = c.args.flows.now.site in
    let cables = c.args.flows.now.cables in
    let few = read_as (λ (t : Site) (xs : List Cable). (p : ℕ) → KeepsFeeders t xs p) c.site-site.ensures.value c.outgoing-outgoing.ensures c.in_default.ensures.none in
    let feeders = keeps_next s cables Feeders 8 refl c.requires.kept (λ (i j : ℕ). few i) in
    let power = keeps_next s cables Power 9 refl feeders (λ (i j : ℕ). c.in_default-first_overpowered.ensures.none i) in
    let lines = read_as (λ (t : Site) (xs : List Cable). (p : ℕ) → KeepsString t xs p) c.site-site.ensures.value c.outgoing-outgoing.ensures c.in_default-first_branched.ensures.none in
    let string = keeps_next s cables Branch 10 refl power (λ (i j : ℕ). lines i) in
    let clear = read_as (λ (t : Site) (xs : List Cable). (a b : ℕ) → KeepsClear t xs a b) c.site-site.ensures.value c.outgoing-outgoing.ensures c.in_default-first_clash.ensures.none in
    keeps_next s cables Clash 11 refl string clear
