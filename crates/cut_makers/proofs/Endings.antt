-- Points where a flow may end.
use Rattle.std.proofs.Common.{◌≡◌, ◌≢◌, ℕ, zero, suc, ◌+◌, ◌-◌, ◌≤◌, ◌<◌, ◌⊎◌, inl, inr, Bool, true, false, cond, List, Some, count_by, length, refl, ap, sym, ◌∙◌, arith, subst, replicate, below_more, eqb}
use Rattle.std.specs.Prelude.{slice_set, slice_index_or}
use Rattle.std.proofs.lemmas.Bool.{false≢true, cases_order}
use Rattle.std.proofs.lemmas.Bool.Decides.{eqb_tells}
use Rattle.std.proofs.lemmas.List.{length-set, get_or-set_same, get_or-set_other, get_or-replicate, get_or_past, length-replicate}
use Rattle.std.proofs.lemmas.List.Sums.{sum_by-set, count_by-le-length}
use Rattle.std.proofs.lemmas.Option.{slice_get-get_or, slice_get_past}
use Rattle.cable_definitions.specs.declared.cable.Arc.{Arc}
use Rattle.cable_definitions.specs.declared.site.Point.{Point}
use Rattle.cable_definitions.specs.Site.{Site}
use Rattle.cable_definitions.specs.Arcs.{kind_of, kind_from, is_substation}
use Rattle.bound_shares.specs.Shares.{shares_where, leaves}
use Rattle.flow_laws.specs.Flow.{HasNoEnd, IsFlow, IsWithinShares}
use Rattle.flow_laws.proofs.Flows.{flow_leaves}
use Rattle.cut_makers.specs.Ends.{is_end, IsLeftBy, AreEnds}

-- ---- one more end
-- ends stay
stays : (ends : List Bool) (p q : ℕ) → p < length ends → is_end ends q ≡ true → is_end (slice_set ends p true) q ≡ true
stays ends p q h e = by_case (eqb_tells q p)
  where
    by_case : ((eqb q p ≡ true) × (q ≡ p)) ⊎ ((eqb q p ≡ false) × (q ≢ p)) → is_end (slice_set ends p true) q ≡ true
    by_case (inl same) = ap (is_end (slice_set ends p true)) same.1 ∙ get_or-set_same ends p true false h
    by_case (inr other) = get_or-set_other ends p q true false other.1 ∙ e

-- an end is the one that was added or was one before
was_end : (ends : List Bool) (p q : ℕ) → is_end (slice_set ends p true) q ≡ true → (q ≡ p) ⊎ (is_end ends q ≡ true)
was_end ends p q e = by_case (eqb_tells q p)
  where
    by_case : ((eqb q p ≡ true) × (q ≡ p)) ⊎ ((eqb q p ≡ false) × (q ≢ p)) → (q ≡ p) ⊎ (is_end ends q ≡ true)
    by_case (inl same) = inl same.1
    by_case (inr other) = inr (sym (get_or-set_other ends p q true false other.1) ∙ e)

-- a point that is left by enough
pub AreEnds-more : (s : Site) (arcs : List Arc) (shares : List ℕ) (least : ℕ) (ends : List Bool) (p : ℕ) → AreEnds s arcs shares least ends → p < 256 → IsLeftBy s arcs shares least p
    → AreEnds s arcs shares least (slice_set ends p true)
AreEnds-more s arcs shares least ends p are h well = record {
  size = length-set ends p true ∙ are.size;
  substations = λ q k. stays ends p q (omega (arith, h, are.size)) (are.substations q k);
  others = λ q k elsewhere. by_case q elsewhere (was_end ends p q k);
}
  where
    by_case : (q : ℕ) → is_substation (kind_of s q) ≡ false → (q ≡ p) ⊎ (is_end ends q ≡ true) → IsLeftBy s arcs shares least q
    by_case q elsewhere (inl same) = subst (IsLeftBy s arcs shares least) (sym same) well
    by_case q elsewhere (inr before) = are.others q before elsewhere

-- less is asked
pub AreEnds-lower : (s : Site) (arcs : List Arc) (shares : List ℕ) (least low : ℕ) (ends : List Bool) → low ≤ least → AreEnds s arcs shares least ends → AreEnds s arcs shares low ends
AreEnds-lower s arcs shares least low ends h are = record {
  size = are.size;
  substations = are.substations;
  others = λ p e elsewhere inside none i. let k = are.others p e elsewhere inside none i in omega (arith, h, k);
}

-- how many ends there are
abbrev pub how_many : List Bool → ℕ
how_many ends = count_by (λ (b : Bool). b) ends

-- 1 where it is true
abbrev one_of : Bool → ℕ
one_of b = cond b 1 0

-- one more of at most 256
pub fewer_left : (ends : List Bool) (p : ℕ) → length ends ≡ 256 → p < 256 → is_end ends p ≡ false → 256 - how_many (slice_set ends p true) < 256 - how_many ends
fewer_left ends p size h e =
    omega (
      arith,
      size,
      sum_by-set one_of ends p true false (omega (arith, h, size)),
      ap one_of e,
      count_by-le-length (λ (b : Bool). b) (slice_set ends p true),
      length-set ends p true,
    )

-- ---- the substations
-- Among the points below p the ends are the substations, and from p on there is none.
pub record AreSubstationsBelow (s : Site) (ends : List Bool) (p : ℕ) : Type 0 where
  pub size : length ends ≡ 256
  pub below : (q : ℕ) → q < p → is_end ends q ≡ is_substation (kind_of s q)
  pub above : (q : ℕ) → p ≤ q → is_end ends q ≡ false

-- no end
pub no_ends : (s : Site) → AreSubstationsBelow s (replicate 256 false) 0
no_ends s = record {
  size = length-replicate 256 false;
  below = λ q h. absurd (omega (arith, h));
  above = λ q h. elim (cases_order q 256) [
    | inl e ↦ get_or_past (replicate 256 false) q false (omega (arith, length-replicate 256 false))
    | inr (inl k) ↦ get_or-replicate 256 q false false k
    | inr (inr k) ↦ get_or_past (replicate 256 false) q false (omega (arith, length-replicate 256 false))
  ];
}

-- the next point is a substation
pub substation_added : (s : Site) (ends : List Bool) (p : ℕ) → AreSubstationsBelow s ends p → p < 256 → is_substation (kind_of s p) ≡ true
    → AreSubstationsBelow s (slice_set ends p true) (p + 1)
substation_added s ends p are h e = record {
  size = length-set ends p true ∙ are.size;
  below = below_more (λ (q : ℕ). is_end (slice_set ends p true) q ≡ is_substation (kind_of s q)) p
      (λ q k. get_or-set_other ends p q true false (λ same. absurd (omega (arith, same, k))) ∙ are.below q k)
      (get_or-set_same ends p true false (omega (arith, h, are.size)) ∙ sym e);
  above = λ q k. get_or-set_other ends p q true false (λ same. absurd (omega (arith, same, k))) ∙ are.above q (omega (arith, k));
}

-- the next point isn't one
pub substation_skipped : (s : Site) (ends : List Bool) (p : ℕ) → AreSubstationsBelow s ends p → is_substation (kind_of s p) ≡ false → AreSubstationsBelow s ends (p + 1)
substation_skipped s ends p are e = record {
  size = are.size;
  below = below_more (λ (q : ℕ). is_end ends q ≡ is_substation (kind_of s q)) p are.below (are.above p (omega arith) ∙ sym e);
  above = λ q k. are.above q (omega (arith, k));
}

-- all points of the site were asked
pub all_substations : (s : Site) (ends : List Bool) (p : ℕ) → AreSubstationsBelow s ends p → length s.points ≤ p → (q : ℕ) → is_end ends q ≡ is_substation (kind_of s q)
all_substations s ends p are h q = elim (cases_order q p) [
  | inl e ↦ past (omega (arith, e))
  | inr (inl k) ↦ are.below q k
  | inr (inr k) ↦ past (omega (arith, k))
]
  where
    past : p ≤ q → is_end ends q ≡ is_substation (kind_of s q)
    past k = are.above q k ∙ sym (ap (λ o. is_substation (kind_from o)) (slice_get_past s.points q (omega (arith, h, k))))

-- where the substations are the ends
pub substations_are_ends : (s : Site) (arcs : List Arc) (shares : List ℕ) (least : ℕ) (ends : List Bool) → length ends ≡ 256 → ((p : ℕ) → is_end ends p ≡ is_substation (kind_of s p))
    → AreEnds s arcs shares least ends
substations_are_ends s arcs shares least ends size same = record {
  size = size;
  substations = λ p e. same p ∙ e;
  others = λ p e elsewhere. absurd (false≢true (sym elsewhere ∙ sym (same p) ∙ e));
}

-- no substation stands where no flow may end
pub no_substation_there : (s : Site) (arcs : List Arc) (shares : List ℕ) (least : ℕ) (ends : List Bool) (p : ℕ) → AreEnds s arcs shares least ends → is_end ends p ≡ false
    → is_substation (kind_of s p) ≡ false
no_substation_there s arcs shares least ends p are e = by_case (is_substation (kind_of s p)) (are.substations p)
  where
    by_case : (b : Bool) → (b ≡ true → is_end ends p ≡ true) → b ≡ false
    by_case true k = absurd (false≢true (sym e ∙ k refl))
    by_case false k = refl

-- ---- what a flow tells
-- some number below n passes two tests, or none does
some_or_none : (inside ends : ℕ → Bool) (n : ℕ) → ((p : ℕ) × (inside p ≡ true) × (ends p ≡ true)) ⊎ ((p : ℕ) → p < n → inside p ≡ true → ends p ≡ false)
some_or_none inside ends zero = inr (λ p h e. absurd (omega (arith, h)))
some_or_none inside ends (suc n) = by_last (inside n) (ends n) refl refl (some_or_none inside ends n)
  where
    one_more : ((p : ℕ) → p < n → inside p ≡ true → ends p ≡ false) → (inside n ≡ true → ends n ≡ false) → (p : ℕ) → p < suc n → inside p ≡ true → ends p ≡ false
    one_more none last p h = below_more (λ (q : ℕ). inside q ≡ true → ends q ≡ false) n none last p (omega (arith, h))

    by_last : (b c : Bool) → inside n ≡ b → ends n ≡ c → ((p : ℕ) × (inside p ≡ true) × (ends p ≡ true)) ⊎ ((p : ℕ) → p < n → inside p ≡ true → ends p ≡ false)
        → ((p : ℕ) × (inside p ≡ true) × (ends p ≡ true)) ⊎ ((p : ℕ) → p < suc n → inside p ≡ true → ends p ≡ false)
    by_last b c e f (inl found) = inl found
    by_last true true e f (inr none) = inl (n, e, f)
    by_last true false e f (inr none) = inr (one_more none (λ k. f))
    by_last false c e f (inr none) = inr (one_more none (λ k. absurd (false≢true (sym e ∙ k))))

-- A set that holds an end is left by enough since each set of that point is, and the flow leaves any other one.
pub left_by_flow : (s : Site) (arcs : List Arc) (shares flow : List ℕ) (ends : List Bool) (least low turbine value : ℕ) → AreEnds s arcs shares least ends
    → IsFlow (is_end ends) arcs flow turbine value → IsWithinShares flow shares → low ≤ least → low ≤ value → IsLeftBy s arcs shares low turbine
left_by_flow s arcs shares flow ends least low turbine value are is_flow within l h inside none e = by_end (some_or_none inside (is_end ends) (length ends))
  where
    no_end : ((p : ℕ) → p < length ends → inside p ≡ true → is_end ends p ≡ false) → HasNoEnd (is_end ends) inside
    no_end outside p i = elim (cases_order p (length ends)) [
      | inl k ↦ get_or_past ends p false (omega (arith, k))
      | inr (inl k) ↦ outside p k i
      | inr (inr k) ↦ get_or_past ends p false (omega (arith, k))
    ]

    by_end : ((p : ℕ) × (inside p ≡ true) × (is_end ends p ≡ true)) ⊎ ((p : ℕ) → p < length ends → inside p ≡ true → is_end ends p ≡ false)
        → low ≤ shares_where (leaves inside) arcs shares
    by_end (inl (p, i, t)) = let k = are.others p t (none p i) inside none i in omega (arith, l, k)
    by_end (inr outside) = let k = flow_leaves (is_end ends) arcs flow shares turbine value inside is_flow within (no_end outside) e in omega (arith, h, k)

-- ---- reading points
-- the kind of a point that is read from the site's points
pub kind_there : (s : Site) (points : List Point) (p : ℕ) (point : Point) → points ≡ s.points → p < length s.points → kind_of s p ≡ (slice_index_or points p point).kind
kind_there s points p point same h =
    ap kind_from (slice_get-get_or s.points p point h ∙ ap Some (ap (λ xs. slice_index_or xs p point) (sym same)))
