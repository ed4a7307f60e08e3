-- The table of the rules on the pairs of points.
use Rattle.std.proofs.Common.{◌≡◌, ℕ, ◌<◌, ◌≤◌, ◌⊎◌, inl, inr, ⊎_elim, List, [], ◌∷◌, ◌++◌, length, get_or, set, Bool, true, false, cond, ◌||◌, Option, Some, None, IsTrue, ◌↔◌, refl, ap, sym, ◌∙◌, subst, arith}
use Rattle.std.specs.Prelude.{All, AllPairs, Any, find, is_some}
use Rattle.std.specs.List.{list_any}
use Rattle.std.specs.Option.{option_or}
use Rattle.std.proofs.lemmas.Bool.{cases_eq, false_from_ne_true}
use Rattle.std.proofs.lemmas.List.{get_or-set_same, get_or-set_other, length-set, get_or_append_left, get_or_push, length_push}
use Rattle.std.proofs.lemmas.List.Elements.{All-get_or}
use Rattle.std.proofs.lemmas.List.Folds.{find-append, Any-from_list_any, list_any_at}
use Rattle.cable_definitions.specs.declared.site.Pair.{Pair}
use Rattle.cable_definitions.specs.declared.site.PairRule.{PairRule}
use Rattle.cable_definitions.specs.Site.{Site, IsValid, IsPair, joins}
use Rattle.cable_definitions.specs.Arcs.{rule_from, rule_of}
use Rattle.site_model.specs.Ruled.{pair_place, rule_in, IsPairTable}
use Rattle.site_model.proofs.Drafts.{joins_cases}
use Rattle.site_model.proofs.Pairs.{joins_from}

-- ---- places
-- two points have one place
one_place : (a b i j : ℕ) → b < 256 → j < 256 → pair_place a b ≡ pair_place i j → (a ≡ i) × (b ≡ j)
one_place a b i j l m e = (omega arith, omega arith)

-- the place of two points is in the table
place_within : (a b : ℕ) → a < 256 → b < 256 → pair_place a b < 65536
place_within a b l m = omega arith

-- ---- what is found
-- whether some element is found says whether some element passes
is_some_find : (f : Pair → Bool) (ps : List Pair) → is_some (find f ps) ≡ list_any f ps
is_some_find f [] = refl
is_some_find f (p ∷ ps) = by_test (f p) (is_some_find f ps)
  where
    by_test : (b : Bool) → is_some (find f ps) ≡ list_any f ps → is_some (cond b (Some p) (find f ps)) ≡ (b || list_any f ps)
    by_test true e = refl
    by_test false e = e

-- none is found where none passes
none_found : (f : Pair → Bool) (ps : List Pair) → ¬ (Any (λ p. IsTrue (f p)) ps) → find f ps ≡ None
none_found f ps h = from_none (find f ps) (λ e. h (Any-from_list_any f ps (sym (is_some_find f ps) ∙ e)))
  where
    from_none : (o : Option Pair) → ¬ (is_some o ≡ true) → o ≡ None
    from_none None n = refl
    from_none (Some p) n = absurd (n refl)

-- whether a found pair's rule is there says whether a pair was found
is_some_rule : (o : Option Pair) → is_some (rule_from o) ≡ is_some o
is_some_rule None = refl
is_some_rule (Some p) = refl

-- what is found with one element more, which passes where no earlier one does
find_pushed : (f : Pair → Bool) (ps : List Pair) (p : Pair) → find f ps ≡ None → f p ≡ true → find f (ps ++ p ∷ []) ≡ Some p
find_pushed f ps p none passes = find-append f ps (p ∷ []) ∙ ap (λ (o : Option Pair). option_or o (find f (p ∷ []))) none ∙ ap (λ (b : Bool). cond b (Some p) None) passes

-- what is found with one element more, which doesn't pass
find_kept : (f : Pair → Bool) (ps : List Pair) (p : Pair) → f p ≡ false → find f (ps ++ p ∷ []) ≡ find f ps
find_kept f ps p fails = find-append f ps (p ∷ []) ∙ ap (λ (b : Bool). option_or (find f ps) (cond b (Some p) None)) fails ∙ or_none (find f ps)
  where
    or_none : (o : Option Pair) → option_or o None ≡ o
    or_none None = refl
    or_none (Some q) = refl

-- ---- tables
-- a table without a rule is that of no pairs
pub IsPairTable-none : (table : List (Option PairRule)) → length table ≡ 65536 → All (λ rule. rule ≡ None) table → IsPairTable table []
IsPairTable-none table size empty = record {
  size = size;
  says = λ a b l m. All-get_or (λ (rule : Option PairRule). rule ≡ None) table (pair_place a b) None (omega (arith, place_within a b l m)) empty;
}

-- the table has a rule at two points exactly where some pair rule is on them
pub has_rule_where : (table : List (Option PairRule)) (pairs : List Pair) (a b : ℕ) → IsPairTable table pairs → a < 256 → b < 256 → IsTrue (is_some (rule_in table a b)) ↔ Any (λ p. IsTrue (joins a b p)) pairs
has_rule_where table pairs a b is l m =
    let f : Pair → Bool = joins a b in
    let same : is_some (rule_in table a b) ≡ list_any f pairs = ap (λ (o : Option PairRule). is_some o) (is.says a b l m) ∙ is_some_rule (find f pairs) ∙ is_some_find f pairs in (
      λ t. Any-from_list_any f pairs (sym same ∙ t),
      λ (k, p, n, at, joined). same ∙ list_any_at f pairs k p n (ap f at ∙ joined),
    )

-- the table with a rule on two points
abbrev entered : List (Option PairRule) → ℕ → ℕ → PairRule → List (Option PairRule)
entered table a b rule = set (set table (pair_place a b) (Some rule)) (pair_place b a) (Some rule)

-- the rule is at the two points, in either order
entered_on : (table : List (Option PairRule)) (a b : ℕ) (rule : PairRule) (i j : ℕ) → length table ≡ 65536 → i < 256 → j < 256 → ((a ≡ i) × (b ≡ j)) ⊎ ((a ≡ j) × (b ≡ i)) → rule_in (entered table a b rule) i j ≡ Some rule
entered_on table a b rule i j size li lj same =
    let one = set table (pair_place a b) (Some rule) in
    let long = length-set table (pair_place a b) (Some rule) in
    let long_all = length-set one (pair_place b a) (Some rule) in
    let within = place_within i j li lj in
    ⊎_elim
    (λ (e : pair_place i j ≡ pair_place b a). subst (λ (k : ℕ). get_or (entered table a b rule) k None ≡ Some rule) (sym e) (get_or-set_same one (pair_place b a) (Some rule) None (omega arith)))
    (λ (ne : ¬ (pair_place i j ≡ pair_place b a)).
    get_or-set_other one (pair_place b a) (pair_place i j) (Some rule) None ne
    ∙ ⊎_elim
    (λ (e : (a ≡ i) × (b ≡ j)).
    let here : pair_place i j ≡ pair_place a b = omega (arith, e.0, e.1) in
    subst (λ (k : ℕ). get_or one k None ≡ Some rule) (sym here) (get_or-set_same table (pair_place a b) (Some rule) None (omega arith)))
    (λ (e : (a ≡ j) × (b ≡ i)). absurd (ne (omega (arith, e.0, e.1))))
    same)
    (cases_eq (pair_place i j) (pair_place b a))

-- other points keep theirs
entered_off : (table : List (Option PairRule)) (a b : ℕ) (rule : PairRule) (i j : ℕ) → a < 256 → b < 256 → i < 256 → j < 256 → ¬ (((a ≡ i) × (b ≡ j)) ⊎ ((a ≡ j) × (b ≡ i))) → rule_in (entered table a b rule) i j ≡ rule_in table i j
entered_off table a b rule i j la lb li lj other =
    let one = set table (pair_place a b) (Some rule) in
    get_or-set_other one (pair_place b a) (pair_place i j) (Some rule) None (λ e. let same = one_place i j b a lj la e in other (inr (sym same.1, sym same.0)))
    ∙ get_or-set_other table (pair_place a b) (pair_place i j) (Some rule) None (λ e. let same = one_place i j a b lj lb e in other (inl (sym same.0, sym same.1)))

-- whether two pairs of points are one
same_pair : (a b i j : ℕ) → (((a ≡ i) × (b ≡ j)) ⊎ ((a ≡ j) × (b ≡ i))) ⊎ (¬ (((a ≡ i) × (b ≡ j)) ⊎ ((a ≡ j) × (b ≡ i))))
same_pair a b i j =
    ⊎_elim
    (λ (e : a ≡ i). ⊎_elim (λ (f : b ≡ j). inl (inl (e, f))) (λ (nf : ¬ (b ≡ j)). crossed (λ (x : a ≡ i) (y : b ≡ j). nf y)) (cases_eq b j))
    (λ (ne : ¬ (a ≡ i)). crossed (λ (x : a ≡ i) (y : b ≡ j). ne x))
    (cases_eq a i)
  where
    crossed : (a ≡ i → b ≡ j → ⊥) → (((a ≡ i) × (b ≡ j)) ⊎ ((a ≡ j) × (b ≡ i))) ⊎ (¬ (((a ≡ i) × (b ≡ j)) ⊎ ((a ≡ j) × (b ≡ i))))
    crossed straight =
        ⊎_elim
        (λ (e : a ≡ j). ⊎_elim (λ (f : b ≡ i). inl (inr (e, f))) (λ (nf : ¬ (b ≡ i)). inr (λ h. ⊎_elim (λ (w : (a ≡ i) × (b ≡ j)). straight w.0 w.1) (λ (w : (a ≡ j) × (b ≡ i)). nf w.1) h)) (cases_eq b i))
        (λ (ne : ¬ (a ≡ j)). inr (λ h. ⊎_elim (λ (w : (a ≡ i) × (b ≡ j)). straight w.0 w.1) (λ (w : (a ≡ j) × (b ≡ i)). ne w.0) h))
        (cases_eq a j)

-- two pairs on the same points join each other
joins_both : (i j : ℕ) (p q : Pair) → ((p.a ≡ i) × (p.b ≡ j)) ⊎ ((p.a ≡ j) × (p.b ≡ i)) → ((q.a ≡ i) × (q.b ≡ j)) ⊎ ((q.a ≡ j) × (q.b ≡ i)) → IsTrue (joins q.a q.b p)
joins_both i j p q (inl e) (inl f) = joins_from q.a q.b p (inl (e.0 ∙ sym f.0, e.1 ∙ sym f.1))
joins_both i j p q (inl e) (inr f) = joins_from q.a q.b p (inr (e.0 ∙ sym f.1, e.1 ∙ sym f.0))
joins_both i j p q (inr e) (inl f) = joins_from q.a q.b p (inr (e.0 ∙ sym f.1, e.1 ∙ sym f.0))
joins_both i j p q (inr e) (inr f) = joins_from q.a q.b p (inl (e.0 ∙ sym f.0, e.1 ∙ sym f.1))

-- where no pair is ruled twice, no earlier rule is on the points of the last one
none_earlier : (pairs : List Pair) (p : Pair) (i j : ℕ) → AllPairs (λ q r. ¬ IsTrue (joins q.a q.b r)) (pairs ++ p ∷ []) → ((p.a ≡ i) × (p.b ≡ j)) ⊎ ((p.a ≡ j) × (p.b ≡ i)) → find (joins i j) pairs ≡ None
none_earlier pairs p i j once same =
    none_found (joins i j) pairs
    (λ (k, q, n, at, joined).
    let longer = length_push pairs p in
    let all = pairs ++ p ∷ [] in
    let earlier : get_or all k q ≡ q = get_or_append_left pairs (p ∷ []) q k n ∙ at in
    let last : get_or all (length pairs) q ≡ p = get_or_push pairs p q (length pairs) refl in
    let apart : ¬ (IsTrue (joins q.a q.b p)) =
    subst (λ (r : Pair). ¬ (IsTrue (joins q.a q.b r))) last
    (subst (λ (r : Pair). ¬ (IsTrue (joins r.a r.b (get_or all (length pairs) q)))) earlier (once k (length pairs) q n (omega arith))) in
    apart (joins_both i j p q same (joins_cases i j q joined)))

-- the table with a further rule on two points
pub IsPairTable-push : (table changed : List (Option PairRule)) (pairs all : List Pair) (p : Pair) → p.a < 256 → p.b < 256 → AllPairs (λ q r. ¬ IsTrue (joins q.a q.b r)) all → IsPairTable table pairs → changed ≡ entered table p.a p.b p.rule
    → all ≡ pairs ++ p ∷ [] → IsPairTable changed all
IsPairTable-push table changed pairs all p la lb once old changed_is all_is =
    subst (λ (t : List (Option PairRule)). IsPairTable t all) (sym changed_is)
    (subst (λ (ps : List Pair). IsPairTable (entered table p.a p.b p.rule) ps) (sym all_is) pushed)
  where
    differ : AllPairs (λ q r. ¬ IsTrue (joins q.a q.b r)) (pairs ++ p ∷ [])
    differ = subst (λ (ps : List Pair). AllPairs (λ q r. ¬ IsTrue (joins q.a q.b r)) ps) all_is once

    pushed : IsPairTable (entered table p.a p.b p.rule) (pairs ++ p ∷ [])
    pushed = record {
      size =
          let one = length-set table (pair_place p.a p.b) (Some p.rule) in
          let two = length-set (set table (pair_place p.a p.b) (Some p.rule)) (pair_place p.b p.a) (Some p.rule) in
          omega (arith, old.size);
      says = λ i j li lj.
          ⊎_elim
          (λ (same : ((p.a ≡ i) × (p.b ≡ j)) ⊎ ((p.a ≡ j) × (p.b ≡ i))).
          entered_on table p.a p.b p.rule i j old.size li lj same
          ∙ ap (λ (o : Option Pair). rule_from o) (sym (find_pushed (joins i j) pairs p (none_earlier pairs p i j differ same) (joins_from i j p same))))
          (λ (other : ¬ (((p.a ≡ i) × (p.b ≡ j)) ⊎ ((p.a ≡ j) × (p.b ≡ i)))).
          entered_off table p.a p.b p.rule i j la lb li lj other
          ∙ old.says i j li lj
          ∙ ap (λ (o : Option Pair). rule_from o) (sym (find_kept (joins i j) pairs p (false_from_ne_true (joins i j p) (λ t. other (joins_cases i j p t))))))
          (same_pair p.a p.b i j);
    }

-- a number past the points has no rule
pub rule_of-past : (s : Site) (a b : ℕ) → IsValid s → (256 ≤ a) ⊎ (256 ≤ b) → rule_of s a b ≡ None
rule_of-past s a b valid past =
    ap (λ (o : Option Pair). rule_from o)
    (none_found (joins a b) s.pairs
    (λ (k, p, n, at, joined).
    let is_pair : IsPair s.points p = subst (IsPair s.points) at (valid.pairs k p n) in
    let first = is_pair.first in
    let second = is_pair.second in
    let count = valid.points_count in
    ⊎_elim (λ (e : (p.a ≡ a) × (p.b ≡ b)). absurd (omega (arith, past, e.0, e.1))) (λ (e : (p.a ≡ b) × (p.b ≡ a)). absurd (omega (arith, past, e.0, e.1))) (joins_cases a b p joined)))
