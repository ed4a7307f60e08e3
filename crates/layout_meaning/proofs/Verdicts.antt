-- The rules one after another.
use Rattle.std.proofs.Common.{◌≡◌, ◌≢◌, ℕ, ◌+◌, ◌≤◌, ◌<◌, ◌⊎◌, List, inl, inr, cond, arith, refl, sym, ap, ◌∙◌, subst}
use Rattle.std.specs.Prelude.{◌==◌}
use Rattle.std.proofs.lemmas.Bool.{cases_lt}
use Rattle.cable_definitions.specs.declared.cable.Cable.{Cable}
use Rattle.cable_definitions.specs.declared.cable.Rule.{Rule}
use Rattle.cable_definitions.specs.declared.cable.Rule.TheVariants.{Range, Candidate, Start, Unjoined, Bend, Lost, Overload, Feeders, Power, Branch, Clash}
use Rattle.cable_definitions.specs.Site.{Site}
use Rattle.cable_definitions.specs.Layout.{Keeps, KeepsRange, KeepsCandidate, KeepsStart, KeepsCapacity, KeepsJoined, KeepsClear, IsNamed, IsBefore, IsFirstBroken, rule_number}
use Rattle.cable_definitions.specs.Part.{IsGrown, IsFirstBrokenOfPart}
use Rattle.layout_meaning.specs.First.{IsFirst, IsFirstCable, IsFirstStart, IsFirstPair, KeepsBelow}

-- the rule of a number
abbrev rule_of_number : ℕ → Rule
rule_of_number n = cond (n == 1) Range (cond (n == 2) Candidate (cond (n == 3) Start (cond (n == 4) Unjoined (cond (n == 5) Bend (cond (n == 6) Lost (cond (n == 7) Overload (cond (n == 8) Feeders (cond (n == 9) Power (cond (n == 10) Branch Clash)))))))))

-- a rule has its number
rule_of_number-of : (rule : Rule) → rule_of_number (rule_number rule) ≡ rule
rule_of_number-of Range = refl
rule_of_number-of Candidate = refl
rule_of_number-of Start = refl
rule_of_number-of Unjoined = refl
rule_of_number-of Bend = refl
rule_of_number-of Lost = refl
rule_of_number-of Overload = refl
rule_of_number-of Feeders = refl
rule_of_number-of Power = refl
rule_of_number-of Branch = refl
rule_of_number-of Clash = refl

-- two rules of one number are one
same_rule : (r q : Rule) → rule_number r ≡ rule_number q → r ≡ q
same_rule r q e = sym (rule_of_number-of r) ∙ ap rule_of_number e ∙ rule_of_number-of q

-- one rule more is kept
pub keeps_next : (s : Site) (cables : List Cable) (rule : Rule) (n : ℕ) → rule_number rule ≡ n → KeepsBelow s cables n → ((i j : ℕ) → Keeps s cables rule i j) → KeepsBelow s cables (n + 1)
keeps_next s cables rule n e below kept r i j u h = elim (cases_lt (rule_number r) n) [
  | inl less ↦ below r i j u less
  | inr more ↦ subst (λ (q : Rule). Keeps s cables q i j) (same_rule rule r (omega arith)) (kept i j)
]

-- rule 4 is `Unjoined`
pub keeps_past_joined : (s : Site) (cables : List Cable) → KeepsBelow s cables 4 → KeepsBelow s cables 5
keeps_past_joined s cables below r i j u h = elim (cases_lt (rule_number r) 4) [
  | inl less ↦ below r i j u less
  | inr more ↦ absurd (u (same_rule r Unjoined (omega arith)))
]

-- no rule has a number below 1
pub keeps_none : (s : Site) (cables : List Cable) → KeepsBelow s cables 1
keeps_none s cables rule i j u h = absurd (let k = some_number rule in omega arith)
  where
    some_number : (rule : Rule) → 1 ≤ rule_number rule
    some_number Range = omega arith
    some_number Candidate = omega arith
    some_number Start = omega arith
    some_number Unjoined = omega arith
    some_number Bend = omega arith
    some_number Lost = omega arith
    some_number Overload = omega arith
    some_number Feeders = omega arith
    some_number Power = omega arith
    some_number Branch = omega arith
    some_number Clash = omega arith

-- where all numbers are of the site
pub keeps_range : (s : Site) (cables : List Cable) → ((i : ℕ) → KeepsRange s cables i) → KeepsBelow s cables 2
keeps_range s cables range = keeps_next s cables Range 1 refl (keeps_none s cables) (λ i j. range i)

-- and all cables are candidate arcs
pub keeps_candidate : (s : Site) (cables : List Cable) → ((i : ℕ) → KeepsRange s cables i) → ((i : ℕ) → KeepsCandidate s cables i) → KeepsBelow s cables 3
keeps_candidate s cables range candidate = keeps_next s cables Candidate 2 refl (keeps_range s cables range) (λ i j. candidate i)

-- numbers are kept
pub range_of : (s : Site) (cables : List Cable) → KeepsBelow s cables 4 → (i : ℕ) → KeepsRange s cables i
range_of s cables kept i = kept Range i 0 (λ x. absurd (cc)) (omega arith)

-- starts are kept
pub starts_of : (s : Site) (cables : List Cable) → KeepsBelow s cables 4 → (i : ℕ) → KeepsStart cables i
starts_of s cables kept i = kept Start i 0 (λ x. absurd (cc)) (omega arith)

-- rules of lower numbers are kept too
pub keeps_fewer : (s : Site) (cables : List Cable) (m n : ℕ) → m ≤ n → KeepsBelow s cables n → KeepsBelow s cables m
keeps_fewer s cables m n l kept r i j u h = kept r i j u (omega arith)

-- all rules but `Unjoined` are kept
pub grown_from : (s : Site) (cables : List Cable) → KeepsBelow s cables 12 → IsGrown s cables
grown_from s cables kept rule i j u = kept rule i j u (small rule)
  where
    small : (rule : Rule) → rule_number rule < 12
    small Range = omega arith
    small Candidate = omega arith
    small Start = omega arith
    small Unjoined = omega arith
    small Bend = omega arith
    small Lost = omega arith
    small Overload = omega arith
    small Feeders = omega arith
    small Power = omega arith
    small Branch = omega arith
    small Clash = omega arith

-- a rule that speaks of one place, K i, is the first broken one, at its first place
pub first_at : (s : Site) (cables : List Cable) (rule : Rule) (K : ℕ → Type 0) (i a b : ℕ) → rule ≢ Unjoined → KeepsBelow s cables (rule_number rule)
    → ((k j : ℕ) → K k → Keeps s cables rule k j) → (Keeps s cables rule i 0 → K i) → IsNamed cables rule i 0 a b → IsFirst K i → IsFirstBrokenOfPart s cables rule a b
first_at s cables rule K i a b u below there back named first = record {
  place = i;
  second_place = 0;
  not_unjoined = u;
  broken = λ kept. first.broken (back kept);
  named = named;
  earlier_rules = below;
  earlier_places = λ k j before. by_order k j before;
}
  where
    by_order : (k j : ℕ) → IsBefore k j i 0 → Keeps s cables rule k j
    by_order k j (inl less) = there k j (first.earlier k less)
    by_order k j (inr (same, less)) = absurd (omega arith)

-- two cables clash, and this is the first broken rule
pub first_clash_at : (s : Site) (cables : List Cable) (a b : ℕ) → KeepsBelow s cables 11 → IsFirstPair (KeepsClear s cables) a b → IsFirstBrokenOfPart s cables Clash a b
first_clash_at s cables a b below first = record {
  place = a;
  second_place = b;
  not_unjoined = λ x. absurd (cc);
  broken = first.broken;
  named = (refl, refl);
  earlier_rules = below;
  earlier_places = first.earlier;
}

-- a cable is the first one that is no candidate arc
pub first_candidate_at : (s : Site) (cables : List Cable) (c : Cable) → KeepsBelow s cables 2 → IsFirstCable (KeepsCandidate s cables) cables c → IsFirstBrokenOfPart s cables Candidate c.from c.to
first_candidate_at s cables c below f = first_at s cables Candidate (KeepsCandidate s cables) f.place c.from c.to (λ x. absurd (cc)) below (λ k j x. x) (λ x. x) (c, f.cable, refl, refl) f.first

-- a cable is the first one that has the start of an earlier one
pub first_start_at : (s : Site) (cables : List Cable) (c : Cable) → KeepsBelow s cables 3 → IsFirstCable (KeepsStart cables) cables c → IsFirstBrokenOfPart s cables Start c.from c.from
first_start_at s cables c below f = first_at s cables Start (KeepsStart cables) f.place c.from c.from (λ x. absurd (cc)) below (λ k j x. x) (λ x. x) (c, f.cable, refl, refl) f.first

-- a cable is the one out of the least start that is overloaded
pub first_overload_at : (s : Site) (cables : List Cable) (c : Cable) → KeepsBelow s cables 7 → IsFirstStart (KeepsCapacity s cables) cables c → IsFirstBrokenOfPart s cables Overload c.from c.to
first_overload_at s cables c below f = first_at s cables Overload (KeepsCapacity s cables) c.from c.from c.to (λ x. absurd (cc)) below (λ k j x. x) (λ x. x) (f.place, c, f.cable, refl, refl, refl) f.first

-- ---- whole layouts
-- the first broken rule but `Unjoined` is the first of all, where it comes before that one or that one is kept
whole : (s : Site) (cables : List Cable) (rule : Rule) (a b : ℕ) → IsFirstBrokenOfPart s cables rule a b
    → ((p : ℕ) → rule_number Unjoined < rule_number rule → KeepsJoined s cables p) → IsFirstBroken s cables rule a b
whole s cables rule a b f joined = record {
  place = f.place;
  second_place = f.second_place;
  broken = f.broken;
  named = f.named;
  earlier_rules = λ r i j h. by_rule r i j h (unjoined_or_not r);
  earlier_places = f.earlier_places;
}
  where
    unjoined_or_not : (r : Rule) → (r ≡ Unjoined) ⊎ (r ≢ Unjoined)
    unjoined_or_not Range = inr (λ x. absurd (cc))
    unjoined_or_not Candidate = inr (λ x. absurd (cc))
    unjoined_or_not Start = inr (λ x. absurd (cc))
    unjoined_or_not Unjoined = inl refl
    unjoined_or_not Bend = inr (λ x. absurd (cc))
    unjoined_or_not Lost = inr (λ x. absurd (cc))
    unjoined_or_not Overload = inr (λ x. absurd (cc))
    unjoined_or_not Feeders = inr (λ x. absurd (cc))
    unjoined_or_not Power = inr (λ x. absurd (cc))
    unjoined_or_not Branch = inr (λ x. absurd (cc))
    unjoined_or_not Clash = inr (λ x. absurd (cc))

    by_rule : (r : Rule) (i j : ℕ) → rule_number r < rule_number rule → (r ≡ Unjoined) ⊎ (r ≢ Unjoined) → Keeps s cables r i j
    by_rule r i j h (inl e) =
        subst (λ (q : Rule). Keeps s cables q i j) (sym e) (joined i (subst (λ (q : Rule). rule_number q < rule_number rule) e h))
    by_rule r i j h (inr u) = f.earlier_rules r i j u h

-- it comes before
pub whole_early : (s : Site) (cables : List Cable) (rule : Rule) (a b : ℕ) → IsFirstBrokenOfPart s cables rule a b → rule_number rule < 4 → IsFirstBroken s cables rule a b
whole_early s cables rule a b f early = whole s cables rule a b f (λ p h. absurd (omega arith))

-- all turbines are joined
pub whole_joined : (s : Site) (cables : List Cable) (rule : Rule) (a b : ℕ) → IsFirstBrokenOfPart s cables rule a b → ((p : ℕ) → KeepsJoined s cables p) → IsFirstBroken s cables rule a b
whole_joined s cables rule a b f joined = whole s cables rule a b f (λ p h. joined p)

-- a turbine is the first one that isn't joined, and no rule before is broken
pub unjoined_at : (s : Site) (cables : List Cable) (p : ℕ) → KeepsBelow s cables 4 → IsFirst (KeepsJoined s cables) p → IsFirstBroken s cables Unjoined p p
unjoined_at s cables p below first = record {
  place = p;
  second_place = 0;
  broken = first.broken;
  named = (refl, refl);
  earlier_rules = λ r i j h. below r i j (λ e. absurd (let k = ap rule_number e in omega arith)) h;
  earlier_places = λ i j before. by_order i j before;
}
  where
    by_order : (i j : ℕ) → IsBefore i j p 0 → KeepsJoined s cables i
    by_order i j (inl less) = first.earlier i less
    by_order i j (inr (same, less)) = absurd (omega arith)
