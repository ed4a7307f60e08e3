-- The best of the lists that were tried, part by part.
use Rattle.std.proofs.Common.{◌≡◌, ◌≢◌, ℕ, ◌+◌, ◌-◌, ◌<◌, ◌≤◌, ◌⊎◌, inl, inr, List, [], ◌∷◌, ◌++◌, length, take, length-append, drop, get_or, Option, Some, None, Bool, true, false, ltb, cond, refl, sym, ◌∙◌, ap, subst, arith, append_assoc, append-nil, IfSome, IfNone}
use Rattle.std.specs.Prelude.{All}
use Rattle.std.proofs.Math.Seq.{take-append_seam}
use Rattle.std.proofs.lemmas.Bool.{cases_lt}
use Rattle.std.proofs.lemmas.Bool.Decides.{nat_tests}
use Rattle.std.proofs.lemmas.List.{at_drop_more, at_drop_all}
use Rattle.cable_definitions.specs.declared.cable.Cable.{Cable}
use Rattle.cable_definitions.specs.declared.site.Kind.{Kind}
use Rattle.cable_definitions.specs.declared.site.Kind.TheVariants.{Turbine, Substation, Bend}
use Rattle.cable_definitions.specs.declared.site.Point.{Point}
use Rattle.cable_definitions.specs.Site.{Site}
use Rattle.cable_definitions.specs.Layout.{IsLegal, cost, Least, HasNone}
use Rattle.plain_planner.proofs.Completeness.{completeness}
use Rattle.plain_planner.specs.Choices.{cable_to, ChoiceAt, IsOneEach, Completes, IsBestTried, cheaper}

-- the list is these cables, then one from p to a point below the bound, and then one for each turbine after p
pub record CompletesBelow (s : Site) (chosen : List Cable) (p bound : ℕ) (cables : List Cable) : Type 0 where
  pub to : ℕ
  pub below : to < bound
  pub completes : Completes s (chosen ++ cable_to p to ∷ []) (p + 1) cables

-- what is best of more lists is best of fewer
pub best_weaker : (s : Site) (P Q : List Cable → Type 0) (best : Option (List Cable × ℕ)) → ((cables : List Cable) → P cables → Q cables) → IsBestTried s Q best → IsBestTried s P best
best_weaker s P Q None f h = λ cables p. h cables (f cables p)
best_weaker s P Q (Some best) f h = record { legal = h.legal; cost_is = h.cost_is; in_order = h.in_order; least = λ cables p. h.least cables (f cables p) }

-- the cheaper of two bests is the best of both
pub best_either : (s : Site) (P Q : List Cable → Type 0) (known found : Option (List Cable × ℕ)) → IsBestTried s P known → IsBestTried s Q found → IsBestTried s (λ cables. P cables ⊎ Q cables) (cheaper known found)
best_either s P Q None None h k = either
  where
    either : (cables : List Cable) → P cables ⊎ Q cables → IsLegal s cables → ⊥
    either cables (inl p) l = h cables p l
    either cables (inr q) l = k cables q l
best_either s P Q None (Some found) h k = record { legal = k.legal; cost_is = k.cost_is; in_order = k.in_order; least = either }
  where
    either : (cables : List Cable) → P cables ⊎ Q cables → IsLegal s cables → found.1 ≤ cost s cables
    either cables (inl p) l = absurd (h cables p l)
    either cables (inr q) l = k.least cables q l
best_either s P Q (Some known) None h k = record { legal = h.legal; cost_is = h.cost_is; in_order = h.in_order; least = either }
  where
    either : (cables : List Cable) → P cables ⊎ Q cables → IsLegal s cables → known.1 ≤ cost s cables
    either cables (inl p) l = h.least cables p l
    either cables (inr q) l = absurd (k cables q l)
best_either s P Q (Some known) (Some found) h k = by (ltb found.1 known.1) refl
  where
    less : ltb found.1 known.1 ≡ true → found.1 < known.1
    less e = grind (arith, nat_tests)

    not_less : ltb found.1 known.1 ≡ false → known.1 ≤ found.1
    not_less e = grind (arith, nat_tests)

    found_least : ltb found.1 known.1 ≡ true → (cables : List Cable) → P cables ⊎ Q cables → IsLegal s cables → found.1 ≤ cost s cables
    found_least e cables (inl p) l = omega (arith, less e, h.least cables p l)
    found_least e cables (inr q) l = k.least cables q l

    known_least : ltb found.1 known.1 ≡ false → (cables : List Cable) → P cables ⊎ Q cables → IsLegal s cables → known.1 ≤ cost s cables
    known_least e cables (inl p) l = h.least cables p l
    known_least e cables (inr q) l = omega (arith, not_less e, k.least cables q l)

    by : (b : Bool) → ltb found.1 known.1 ≡ b → IsBestTried s (λ cables. P cables ⊎ Q cables) (cond b (Some found) (Some known))
    by true e = record { legal = k.legal; cost_is = k.cost_is; in_order = k.in_order; least = found_least e }
    by false e = record { legal = h.legal; cost_is = h.cost_is; in_order = h.in_order; least = known_least e }

-- no end was tried
pub none_below : (s : Site) (chosen : List Cable) (p : ℕ) → IsBestTried s (CompletesBelow s chosen p 0) None
none_below s chosen p cables h = absurd (omega (arith, h.below))

-- one more end was tried
pub one_more_end : (s : Site) (chosen : List Cable) (p q : ℕ) (known found : Option (List Cable × ℕ)) → IsBestTried s (CompletesBelow s chosen p q) known
    → IsBestTried s (Completes s (chosen ++ cable_to p q ∷ []) (p + 1)) found → IsBestTried s (CompletesBelow s chosen p (q + 1)) (cheaper known found)
one_more_end s chosen p q known found h k =
    best_weaker s (CompletesBelow s chosen p (q + 1)) (λ cables. CompletesBelow s chosen p q cables ⊎ Completes s (chosen ++ cable_to p q ∷ []) (p + 1) cables) (cheaper known found) split
    (best_either s (CompletesBelow s chosen p q) (Completes s (chosen ++ cable_to p q ∷ []) (p + 1)) known found h k)
  where
    split : (cables : List Cable) → CompletesBelow s chosen p (q + 1) cables → CompletesBelow s chosen p q cables ⊎ Completes s (chosen ++ cable_to p q ∷ []) (p + 1) cables
    split cables c = by (cases_lt c.to q)
      where
        same : (to : ℕ) → to ≡ q → Completes s (chosen ++ cable_to p to ∷ []) (p + 1) cables → Completes s (chosen ++ cable_to p q ∷ []) (p + 1) cables
        same to e k = subst (λ (x : ℕ). Completes s (chosen ++ cable_to p x ∷ []) (p + 1) cables) e k

        by : (c.to < q) ⊎ (q ≤ c.to) → CompletesBelow s chosen p q cables ⊎ Completes s (chosen ++ cable_to p q ∷ []) (p + 1) cables
        by (inl l) = inl (record { to = c.to; below = l; completes = c.completes })
        by (inr l) = inr (same c.to (omega (arith, c.below)) c.completes)

-- what stands at a point and behind it
points_from : (s : Site) (p : ℕ) (point : Point) → p < length s.points → point ≡ get_or s.points p point → drop p s.points ≡ point ∷ drop (p + 1) s.points
points_from s p point l e = at_drop_more (λ (xs : List Point). xs) s.points p point l ∙ ap (λ (x : Point). x ∷ drop (p + 1) s.points) (sym e)

-- all ends of a turbine were tried
pub all_ends : (s : Site) (chosen : List Cable) (p bound : ℕ) (point : Point) (power : ℕ) (best : Option (List Cable × ℕ)) → p < length s.points → point ≡ get_or s.points p point
    → point.kind ≡ Turbine power → length s.points ≤ bound → IsBestTried s (CompletesBelow s chosen p bound) best → IsBestTried s (Completes s chosen p) best
all_ends s chosen p bound point power best l e k m h = best_weaker s (Completes s chosen p) (CompletesBelow s chosen p bound) best through h
  where
    first : (cables rest : List Cable) → cables ≡ chosen ++ rest → ChoiceAt s p (Turbine power) rest (IsOneEach s (p + 1) (drop (p + 1) s.points)) → CompletesBelow s chosen p bound cables
    first cables [] e c = absurd c
    first cables (d ∷ rest) e c = record {
      to = c.0.0;
      below = omega (arith, c.0.1);
      completes = record { rest = rest; choice = c.1; joined = e ∙ ap (λ (x : Cable). chosen ++ x ∷ rest) c.0.2 ∙ sym (append_assoc chosen (cable_to p c.0.0 ∷ []) rest) };
    }

    through : (cables : List Cable) → Completes s chosen p cables → CompletesBelow s chosen p bound cables
    through cables c =
        first cables c.rest c.joined
        (subst (λ (kind : Kind). ChoiceAt s p kind c.rest (IsOneEach s (p + 1) (drop (p + 1) s.points))) k (subst (λ (points : List Point). IsOneEach s p points c.rest) (points_from s p point l e) c.choice))

-- no cable is chosen out of a point that is no turbine
pub no_end : (s : Site) (chosen : List Cable) (p : ℕ) (point : Point) (best : Option (List Cable × ℕ)) → p < length s.points → point ≡ get_or s.points p point
    → ((power : ℕ) → point.kind ≡ Turbine power → ⊥) → IsBestTried s (Completes s chosen (p + 1)) best → IsBestTried s (Completes s chosen p) best
no_end s chosen p point best l e n h = best_weaker s (Completes s chosen p) (Completes s chosen (p + 1)) best through h
  where
    later : (kind : Kind) (rest : List Cable) → ((power : ℕ) → kind ≡ Turbine power → ⊥) → ChoiceAt s p kind rest (IsOneEach s (p + 1) (drop (p + 1) s.points)) → IsOneEach s (p + 1) (drop (p + 1) s.points) rest
    later (Turbine power) rest n c = absurd (n power refl)
    later (Substation feeders power) rest n c = c
    later Bend rest n c = c

    through : (cables : List Cable) → Completes s chosen p cables → Completes s chosen (p + 1) cables
    through cables c = record {
      rest = c.rest;
      choice = later point.kind c.rest n (subst (λ (points : List Point). IsOneEach s p points c.rest) (points_from s p point l e) c.choice);
      joined = c.joined;
    }

-- behind all points the chosen cables are the only list
pub chosen_alone : (s : Site) (chosen cables : List Cable) (p : ℕ) → length s.points ≤ p → Completes s chosen p cables → cables ≡ chosen
chosen_alone s chosen cables p l c =
    let none = subst (λ (points : List Point). IsOneEach s p points c.rest) (at_drop_all (λ (xs : List Point). xs) s.points p l) c.choice in
    c.joined ∙ ap (λ (rest : List Cable). chosen ++ rest) none ∙ append-nil chosen

-- a list that completes no cable from the first point on is a choice
choice_of : (s : Site) (cables : List Cable) → IsOneEach s 0 s.points cables → Completes s [] 0 cables
choice_of s cables h = record { rest = cables; choice = h; joined = refl }

-- where no choice is legal there is no legal layout
pub none_at_all : (s : Site) (best : Option (List Cable × ℕ)) → length s.types ≡ 1 → All (λ p. p.kind ≢ Bend) s.points → IsBestTried s (Completes s [] 0) best → IfNone best (HasNone s)
none_at_all s None one no_bends h = λ cables l. let good = completeness s cables one no_bends l in h good.0 (choice_of s good.0 good.1.choice_is) good.1.legal
none_at_all s (Some best) one no_bends h = tt

-- the best of all choices costs no more than any legal layout
pub least_of_all : (s : Site) (best : Option (List Cable × ℕ)) → length s.types ≡ 1 → All (λ p. p.kind ≢ Bend) s.points → IsBestTried s (Completes s [] 0) best → IfSome best (λ b. Least s b.1)
least_of_all s None one no_bends h = tt
least_of_all s (Some best) one no_bends h = λ cables l.
    let good = completeness s cables one no_bends l in omega (arith, good.1.same_cost, h.least good.0 (choice_of s good.0 good.1.choice_is) good.1.legal)

-- one cable more than was chosen
pub pushed_on : (new old chosen : List Cable) (c : Cable) → new ≡ old ++ c ∷ [] → old ≡ chosen → new ≡ chosen ++ c ∷ []
pushed_on new old chosen c e h = e ∙ ap (λ (xs : List Cable). xs ++ c ∷ []) h

-- and the same when it is left as it was
pub kept_on : (new old chosen : List Cable) (c : Cable) → new ≡ old → old ≡ chosen ++ c ∷ [] → new ≡ chosen ++ c ∷ []
kept_on new old chosen c e h = e ∙ h

-- what is left where the last element is taken away
pub popped : (old new chosen : List Cable) (c : Cable) (n : ℕ) → new ≡ take (n - 1) old → n ≡ length old → old ≡ chosen ++ c ∷ [] → new ≡ chosen
popped old new chosen c n e l o =
    let m : n - 1 ≡ length chosen = omega (arith, l, ap length o, length-append chosen (c ∷ [])) in
    e ∙ ap (λ (k : ℕ). take k old) m ∙ ap (take (length chosen)) o ∙ take-append_seam chosen (c ∷ [])
