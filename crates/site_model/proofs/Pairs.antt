-- The first code of a pair rule, one test after another.
use Rattle.std.proofs.Common.{◌≡◌, ℕ, ◌<◌, ◌≤◌, ◌⊎◌, inl, inr, ⊎_elim, ℤ, pos, List, [], ◌∷◌, ◌++◌, length, get_or, Option, Some, None, IsTrue, ◌&&◌, ◌==◌, refl, sym, ap, ◌∙◌, subst, arith}
use Rattle.std.specs.Prelude.{All, AllPairs, Any, IsSome, slice_get}
use Rattle.std.proofs.lemmas.Int.{ints}
use Rattle.std.proofs.lemmas.Bool.{cases_order, or_left, or_right, and_from, eq-eqb}
use Rattle.std.proofs.lemmas.Option.{slice_get_cases, slice_get-get_or}
use Rattle.std.proofs.lemmas.List.Elements.{All-nil, All-cons}
use Rattle.cable_definitions.specs.declared.site.Point.{Point}
use Rattle.cable_definitions.specs.declared.site.Pair.{Pair}
use Rattle.cable_definitions.specs.declared.site.PairRule.{PairRule}
use Rattle.cable_definitions.specs.declared.site.PairRule.TheVariants.{Charge, Closed}
use Rattle.cable_definitions.specs.declared.site.SiteCode.TheVariants.{Range, BadName, SameName, SamePlace, UnknownName, SamePair, InObstacle, TooMany}
use Rattle.cable_definitions.specs.Naming.{IsName}
use Rattle.cable_definitions.specs.Site.{Site, IsPair, IsPairRule, joins}
use Rattle.cable_definitions.specs.Text.{name_from, name_of}
use Rattle.cable_definitions.specs.Items.{RawItem, Draft, Overlong, may_stand, within, rule_fields, IsWithin, raw_rule, HasNamed, IsOnNames, IsGood}
use Rattle.site_model.specs.Building.{pair_item, rule_item}
use Rattle.site_model.specs.Drafts.{IsDraft, item_of_pair}
use Rattle.site_model.proofs.Ranges.{IsWithin-some}
use Rattle.site_model.proofs.Codes.{KeepsBelow, KeepsBelow-past, KeepsBelow-shaped, IsGood-kept}
use Rattle.site_model.proofs.Drafts.{IsDraft-pair, joins_cases}

-- the number of a rule is given
rule_given : (amount : Option ℤ) → All (λ f. IsSome f.value) (rule_fields (rule_item amount))
rule_given None = All-nil _
rule_given (Some amount) = All-cons (λ f. IsSome f.value) (within (Some amount) (pos 0) (pos 1000000000000)) [] refl (All-nil _)

-- the number of a rule in range
rule_within : (rule : PairRule) → IsPairRule rule → All IsWithin (rule_fields (raw_rule rule))
rule_within (Charge amount) h =
    All-cons IsWithin (within (Some (pos amount)) (pos 0) (pos 1000000000000)) [] (IsWithin-some (pos amount) (pos 0) (pos 1000000000000) (omega (arith, ints)) (omega (arith, ints, h))) (All-nil _)
rule_within Closed h = All-nil _

-- a pair rule that may stand, with its number given
pub KeepsBelow-pair_stands : (d : Draft) (a b : List ℕ) (amount : Option ℤ) → IsTrue (may_stand d (pair_item a b amount)) → KeepsBelow d (pair_item a b amount) 4
KeepsBelow-pair_stands d a b amount stands = KeepsBelow-shaped d (pair_item a b amount) (λ e. absurd (no_line e)) stands refl (rule_given amount)
  where
    no_line : pair_item a b amount ≡ Overlong → ⊥
    no_line e = cc

-- a pair rule in range
pub KeepsBelow-pair_ranges : (d : Draft) (a b : List ℕ) (amount : Option ℤ) (rule : PairRule) → IsTrue (may_stand d (pair_item a b amount)) → rule_item amount ≡ raw_rule rule → IsPairRule rule → KeepsBelow d (pair_item a b amount) 5
KeepsBelow-pair_ranges d a b amount rule stands same fits =
    KeepsBelow-past d (pair_item a b amount) Range (KeepsBelow-pair_stands d a b amount stands)
    (λ out. out (subst (λ r. All IsWithin (rule_fields r)) (sym same) (rule_within rule fits)))

-- a pair rule of two names
pub KeepsBelow-pair_names : (d : Draft) (a b : List ℕ) (amount : Option ℤ) → KeepsBelow d (pair_item a b amount) 5 → IsName a → IsName b → KeepsBelow d (pair_item a b amount) 8
KeepsBelow-pair_names d a b amount kept first second =
    let item = pair_item a b amount in
    let named = KeepsBelow-past d item BadName kept (λ bad. bad (All-cons IsName a (b ∷ []) first (All-cons IsName b [] second (All-nil _)))) in
    KeepsBelow-past d item SamePlace (KeepsBelow-past d item SameName named (λ h. h)) (λ h. h)

-- a pair rule on two points of the site
pub KeepsBelow-pair_known : (d : Draft) (a b : List ℕ) (amount : Option ℤ) → KeepsBelow d (pair_item a b amount) 8 → HasNamed d a → HasNamed d b → KeepsBelow d (pair_item a b amount) 9
KeepsBelow-pair_known d a b amount kept first second =
    KeepsBelow-past d (pair_item a b amount) UnknownName kept
    (λ unknown. ⊎_elim (λ (n : ¬ (HasNamed d a)). n first) (λ (n : ¬ (HasNamed d b)). n second) unknown)

-- a pair rule on a new pair
pub IsGood-pair : (d : Draft) (a b : List ℕ) (amount : Option ℤ) → KeepsBelow d (pair_item a b amount) 9 → ¬ ((a ≡ b) ⊎ Any (IsOnNames d.site a b) d.site.pairs) → IsGood d (pair_item a b amount)
IsGood-pair d a b amount kept fresh =
    let item = pair_item a b amount in
    IsGood-kept d item (KeepsBelow-past d item TooMany (KeepsBelow-past d item InObstacle (KeepsBelow-past d item SamePair kept fresh) (λ h. h)) (λ h. h))

-- ---- names and numbers
-- points that differ in their names have one number for each name
pub one_number : (points : List Point) (i j : ℕ) → AllPairs (λ p q. ¬ (p.name ≡ q.name)) points → i < length points → j < length points → name_from (slice_get points i) ≡ name_from (slice_get points j) → i ≡ j
one_number points i j differ li lj same =
    let p : Point = (known i li).0 in
    let names : (get_or points i p).name ≡ (get_or points j p).name =
    ap name_from (sym (slice_get-get_or points i p li)) ∙ same ∙ ap name_from (slice_get-get_or points j p lj) in
    ⊎_elim (λ (e : i ≡ j). e)
    (λ (w : (i < j) ⊎ (j < i)).
    ⊎_elim (λ (l : i < j). absurd (differ i j p l lj names)) (λ (l : j < i). absurd (differ j i p l li (sym names))) w)
    (cases_order i j)
  where
    known : (k : ℕ) → k < length points → (p : Point) × (slice_get points k ≡ Some p)
    known k l =
        ⊎_elim (λ (w : (x : Point) × (k < length points) × (slice_get points k ≡ Some x) × (get_or points k x ≡ x)). (w.0, w.2))
        (λ (w : (length points ≤ k) × (slice_get points k ≡ None)). absurd (omega (arith, w.0, l)))
        (slice_get_cases points k).1

-- the pair is joined by a rule on these points
pub joins_from : (a b : ℕ) (p : Pair) → ((p.a ≡ a) × (p.b ≡ b)) ⊎ ((p.a ≡ b) × (p.b ≡ a)) → IsTrue (joins a b p)
joins_from a b p (inl (first, second)) = or_left ((p.a == a) && (p.b == b)) ((p.a == b) && (p.b == a)) (and_from (p.a == a) (p.b == b) (eq-eqb p.a a first) (eq-eqb p.b b second))
joins_from a b p (inr (first, second)) = or_right ((p.a == a) && (p.b == b)) ((p.a == b) && (p.b == a)) (and_from (p.a == b) (p.b == a) (eq-eqb p.a b first) (eq-eqb p.b a second))

-- an earlier rule on these points is one on their names
pub Any-joined_named : (s : Site) (a b : List ℕ) (i j : ℕ) → name_of s i ≡ a → name_of s j ≡ b → Any (λ p. IsTrue (joins i j p)) s.pairs → Any (IsOnNames s a b) s.pairs
Any-joined_named s a b i j first second (k, p, l, at, joined) = (
  k,
  p,
  l,
  at,
  ⊎_elim (λ (e : (p.a ≡ i) × (p.b ≡ j)). inl (ap (name_of s) e.0 ∙ first, ap (name_of s) e.1 ∙ second))
      (λ (e : (p.a ≡ j) × (p.b ≡ i)). inr (ap (name_of s) e.0 ∙ second, ap (name_of s) e.1 ∙ first))
      (joins_cases i j p joined),
)

-- an earlier rule on these names is one on their points
pub Any-named_joined : (s : Site) (a b : List ℕ) (i j : ℕ) → AllPairs (λ p q. ¬ (p.name ≡ q.name)) s.points → All (IsPair s.points) s.pairs → i < length s.points → j < length s.points
    → name_of s i ≡ a → name_of s j ≡ b → Any (IsOnNames s a b) s.pairs → Any (λ p. IsTrue (joins i j p)) s.pairs
Any-named_joined s a b i j differ in_range li lj first second (k, p, l, at, named) =
    let is_pair : IsPair s.points p = subst (IsPair s.points) at (in_range k p l) in (
      k,
      p,
      l,
      at,
      joins_from i j p
          (⊎_elim (λ (e : (name_of s p.a ≡ a) × (name_of s p.b ≡ b)).
          inl (one_number s.points p.a i differ is_pair.first li (e.0 ∙ sym first), one_number s.points p.b j differ is_pair.second lj (e.1 ∙ sym second)))
          (λ (e : (name_of s p.a ≡ b) × (name_of s p.b ≡ a)).
          inr (one_number s.points p.a j differ is_pair.first lj (e.0 ∙ sym second), one_number s.points p.b i differ is_pair.second li (e.1 ∙ sym first)))
          named),
    )

-- ---- what a pair rule adds
-- the site so far with a good pair rule more
pub IsDraft-pushed_pair : (d e : Draft) (item : RawItem) (p : Pair) (pairs : List Pair) → d ≡ e → IsDraft d → IsGood e item → p.a < length e.site.points → p.b < length e.site.points → item ≡ item_of_pair e.site p
    → pairs ≡ d.site.pairs ++ p ∷ [] → IsDraft (record d { stage = 5; site = record d.site { pairs = pairs } })
IsDraft-pushed_pair d e item p pairs same draft good first second said pushed =
    let good_here : IsGood d (item_of_pair d.site p) = subst (λ (f : Draft). IsGood f (item_of_pair f.site p)) (sym same) (subst (λ (i : RawItem). IsGood e i) said good) in
    let first_here : p.a < length d.site.points = subst (λ (f : Draft). p.a < length f.site.points) (sym same) first in
    let second_here : p.b < length d.site.points = subst (λ (f : Draft). p.b < length f.site.points) (sym same) second in
    subst (λ (ps : List Pair). IsDraft (record d { stage = 5; site = record d.site { pairs = ps } })) (sym pushed) (IsDraft-pair d p first_here second_here draft good_here)
