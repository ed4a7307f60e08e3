-- The candidate arcs of a site, listed pair by pair.
use Rattle.std.proofs.Common.{◌≡◌, ◌≢◌, ℕ, ◌+◌, ◌<◌, ◌≤◌, ◌⊎◌, slice_get, List, [], ◌∷◌, ◌++◌, length, get_or, inl, inr, arith, sym, ap, ◌∙◌, subst, Any}
use Rattle.std.proofs.lemmas.Bool.{cases_order}
use Rattle.std.proofs.lemmas.List.{length_push, length-append, get_or_append_left}
use Rattle.std.proofs.lemmas.List.Elements.{All-push, All-nil, All-weaker}
use Rattle.std.proofs.lemmas.List.Quantifiers.{Any-push, all_pairs_push}
use Rattle.std.proofs.lemmas.Option.{slice_get_within, slice_get-get_or}
use Rattle.cable_definitions.specs.declared.cable.Arc.{Arc}
use Rattle.cable_definitions.specs.Site.{Site}
use Rattle.cable_definitions.specs.declared.site.Point.{Point}
use Rattle.cable_definitions.specs.Plane.{length_of}
use Rattle.cable_definitions.specs.Arcs.{IsPoint, IsCandidate, ArcBefore, AreArcs, length_between}
use Rattle.candidate_cables.specs.Listing.{IsArc, PairBefore, HasArc, AreArcsBefore}

-- a pair before the next end is one before this end, or this pair
pair_cases : (from to p q : ℕ) → PairBefore from to p (q + 1) → PairBefore from to p q ⊎ ((from ≡ p) × (to ≡ q))
pair_cases from to p q (inl less) = inl (inl less)
pair_cases from to p q (inr (same, less)) = elim (cases_order to q) [
  | inl e ↦ inr (same, e)
  | inr (inl below) ↦ inl (inr (same, below))
  | inr (inr above) ↦ absurd (omega arith)
]

-- a pair before this end is one before the next
pair_more : (from to p q : ℕ) → PairBefore from to p q → PairBefore from to p (q + 1)
pair_more from to p q (inl less) = inl less
pair_more from to p q (inr (same, less)) = inr (same, omega arith)

-- what some element meets, some element of a longer list meets
any_append : {X : Type 0} → (P : X → Type 0) (xs ys : List X) → Any P xs → Any P (xs ++ ys)
any_append P xs ys (k, x, h, is, p) = (k, x, omega (arith, length-append xs ys), get_or_append_left xs ys x k h ∙ is, p)

-- no arc is listed at the start
pub none_listed : (s : Site) → AreArcsBefore s 0 0 []
none_listed s = record {
  in_order = λ i j d h k. absurd (omega arith);
  before = All-nil _;
  are_arcs = All-nil _;
  all_candidates = λ from to before _. absurd (nothing_before from to before);
  count = omega arith;
  count_past_start = λ h. absurd (omega arith);
}
  where
    nothing_before : (from to : ℕ) → PairBefore from to 0 0 → ⊥
    nothing_before from to (inl less) = omega arith
    nothing_before from to (inr (same, less)) = omega arith

-- the next pair is a candidate, and its arc is listed
pub arc_listed : (s : Site) (p q : ℕ) (arcs : List Arc) (a : Arc) → AreArcsBefore s p q arcs → IsArc s a → a.from ≡ p → a.to ≡ q → AreArcsBefore s p (q + 1) (arcs ++ a ∷ [])
arc_listed s p q arcs a h is from_is to_is =
    let l = length_push arcs a in
    let ne : p ≢ q = λ e. is.candidate.different (from_is ∙ e ∙ sym to_is) in
    record {
      in_order = all_pairs_push ArcBefore arcs a h.in_order (λ k d less. here (get_or arcs k d) (h.before k d less));
      before = All-push (λ (b : Arc). PairBefore b.from b.to p (q + 1)) arcs a (All-weaker (λ (b : Arc). PairBefore b.from b.to p q) (λ (b : Arc). PairBefore b.from b.to p (q + 1)) (λ b. pair_more b.from b.to p q) arcs h.before) (inr (from_is, omega arith));
      are_arcs = All-push (IsArc s) arcs a h.are_arcs is;
      all_candidates = λ from to before candidate. by_pair from to (pair_cases from to p q before) candidate;
      count = omega (arith, l, h.count);
      count_past_start = λ less. omega (arith, l, h.count_past_start, ne);
    }
  where
    here : (b : Arc) → PairBefore b.from b.to p q → ArcBefore b a
    here b (inl less) = inl (omega (arith, from_is))
    here b (inr (same, less)) = inr (same ∙ sym from_is, omega (arith, to_is))

    by_pair : (from to : ℕ) → PairBefore from to p q ⊎ ((from ≡ p) × (to ≡ q)) → IsCandidate s from to → HasArc (arcs ++ a ∷ []) from to
    by_pair from to (inl before) candidate = any_append (λ (b : Arc). (b.from ≡ from) × (b.to ≡ to)) arcs (a ∷ []) (h.all_candidates from to before candidate)
    by_pair from to (inr (e, f)) candidate = Any-push (λ (b : Arc). (b.from ≡ from) × (b.to ≡ to)) arcs a (from_is ∙ sym e, to_is ∙ sym f)

-- the next pair is no candidate
pub arc_passed : (s : Site) (p q : ℕ) (arcs : List Arc) → AreArcsBefore s p q arcs → (IsCandidate s p q → ⊥) → AreArcsBefore s p (q + 1) arcs
arc_passed s p q arcs h n = record {
  in_order = h.in_order;
  before = All-weaker (λ (b : Arc). PairBefore b.from b.to p q) (λ (b : Arc). PairBefore b.from b.to p (q + 1)) (λ b. pair_more b.from b.to p q) arcs h.before;
  are_arcs = h.are_arcs;
  all_candidates = λ from to before candidate. by_pair from to (pair_cases from to p q before) candidate;
  count = omega (arith, h.count);
  count_past_start = λ less. omega (arith, h.count);
}
  where
    by_pair : (from to : ℕ) → PairBefore from to p q ⊎ ((from ≡ p) × (to ≡ q)) → IsCandidate s from to → HasArc arcs from to
    by_pair from to (inl before) candidate = h.all_candidates from to before candidate
    by_pair from to (inr (e, f)) candidate = absurd (n (subst (λ (k : ℕ). IsCandidate s p k) f (subst (λ (k : ℕ). IsCandidate s k to) e candidate)))

-- all ends from a start are passed
pub start_done : (s : Site) (p n : ℕ) (arcs : List Arc) → AreArcsBefore s p n arcs → n ≡ length s.points → n ≤ 256 → p < n → AreArcsBefore s (p + 1) 0 arcs
start_done s p n arcs h e small less = record {
  in_order = h.in_order;
  before = All-weaker (λ (b : Arc). PairBefore b.from b.to p n) (λ (b : Arc). PairBefore b.from b.to (p + 1) 0) (λ b. next b.from b.to) arcs h.before;
  are_arcs = h.are_arcs;
  all_candidates = λ from to before candidate. h.all_candidates from to (back from to (omega (arith, slice_get_within s.points to candidate.to candidate.to_is)) before) candidate;
  count = omega (arith, h.count_past_start less);
  count_past_start = λ k. absurd (omega arith);
}
  where
    next : (from to : ℕ) → PairBefore from to p n → PairBefore from to (p + 1) 0
    next from to (inl k) = inl (omega arith)
    next from to (inr (same, k)) = inl (omega arith)

    back : (from to : ℕ) → to < n → PairBefore from to (p + 1) 0 → PairBefore from to p n
    back from to k (inl below) = elim (cases_order from p) [
      | inl same ↦ inr (same, k)
      | inr (inl less) ↦ inl less
      | inr (inr more) ↦ absurd (omega arith)
    ]
    back from to k (inr (same, none)) = absurd (omega arith)

-- all starts are passed
pub all_listed : (s : Site) (n : ℕ) (arcs : List Arc) → AreArcsBefore s n 0 arcs → n ≡ length s.points → AreArcs s arcs
all_listed s n arcs h e = record {
  in_order = h.in_order;
  candidates = λ k d less. (h.are_arcs k d less).candidate;
  all_candidates = λ p q candidate. h.all_candidates p q (inl (omega (arith, slice_get_within s.points p candidate.from candidate.from_is))) candidate;
  lengths = λ k d less. (h.are_arcs k d less).metres;
  charges = λ k d less. (h.are_arcs k d less).charged;
}

-- the length between two points by their numbers is that between their places
pub length_read : (s : Site) (p q : ℕ) (from to : Point) (l : ℕ) → IsPoint s p from → IsPoint s q to → l ≡ length_of from.at to.at → l ≡ length_between (slice_get s.points p) (slice_get s.points q)
length_read s p q from to l e f h = rw (e, f) h

-- the point that is read at an index
pub point_at : (s : Site) (points : List Point) (i : ℕ) (d : Point) → points ≡ s.points → i < length s.points → IsPoint s i (get_or points i d)
point_at s points i d e h = ap (λ (xs : List Point). slice_get xs i) (sym e) ∙ slice_get-get_or points i d (omega (arith, ap (length {A = Point}) e))

-- a loop over the numbers of points ends at their count
pub at_end : (s : Site) (points : List Point) (i : ℕ) → points ≡ s.points → length points ≤ i → i ≤ length points → i ≡ length s.points
at_end s points i e h k = omega (arith, ap (length {A = Point}) e)
