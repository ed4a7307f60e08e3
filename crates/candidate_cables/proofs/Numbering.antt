-- The numbers of arcs in an ordered list, and the tables beside it.
use Rattle.std.proofs.Common.{◌≡◌, ℕ, zero, suc, ◌+◌, ◌<◌, ◌≤◌, ◌⊎◌, slice_get, Some, List, [], ◌∷◌, ◌++◌, length, get_or, inl, inr, arith, refl, sym, ap, ◌∙◌, subst, AllPairs}
use Rattle.std.proofs.lemmas.Bool.{cases_order, cases_lt}
use Rattle.std.proofs.lemmas.List.{length_push}
use Rattle.std.proofs.lemmas.Option.{slice_get_within, slice_get-get_or, get_or_from_slice_get}
use Rattle.cable_definitions.specs.declared.cable.Arc.{Arc}
use Rattle.cable_definitions.specs.Site.{Site}
use Rattle.cable_definitions.specs.Arcs.{ArcBefore, AreArcs}
use Rattle.candidate_cables.specs.Tables.{IsNumberOf, IsFirstFrom, AreNumbersInto, AreFirst, AreAllInto, AreTables}

start_le : (a b : Arc) → ArcBefore a b → a.from ≤ b.from
start_le a b (inl less) = omega arith
start_le a b (inr (same, less)) = omega arith

-- starts ascend in an ordered list
starts_ascend : (arcs : List Arc) (i j : ℕ) (a b : Arc) → AllPairs ArcBefore arcs → i < j → slice_get arcs i ≡ Some a → slice_get arcs j ≡ Some b → a.from ≤ b.from
starts_ascend arcs i j a b order less e f =
    let h = order i j a less (slice_get_within arcs j b f) in
    let first = get_or_from_slice_get arcs i a a e in
    let second = get_or_from_slice_get arcs j b a f in
    start_le a b (subst (λ (x : Arc). ArcBefore a x) second (subst (λ (x : Arc). ArcBefore x (get_or arcs j a)) first h))

-- the arcs below n start below p, and arc n doesn't
pub first_here : (arcs : List Arc) (p n : ℕ) (d : Arc) → AllPairs ArcBefore arcs → n < length arcs → p ≤ (get_or arcs n d).from → ((k : ℕ) (a : Arc) → k < n → slice_get arcs k ≡ Some a → a.from < p) → IsFirstFrom arcs p n
first_here arcs p n d order within here earlier = record { within = omega arith; earlier = earlier; later = λ k a le e. by_place k a le e (cases_order n k) }
  where
    by_place : (k : ℕ) (a : Arc) → n ≤ k → slice_get arcs k ≡ Some a → (n ≡ k) ⊎ ((n < k) ⊎ (k < n)) → p ≤ a.from
    by_place k a le e (inl same) = subst (λ (x : Arc). p ≤ x.from) (get_or_from_slice_get arcs n a d (subst (λ (m : ℕ). slice_get arcs m ≡ Some a) (sym same) e)) here
    by_place k a le e (inr (inl less)) = let h = starts_ascend arcs n k (get_or arcs n d) a order less (slice_get-get_or arcs n d within) e in omega (arith, h, here)
    by_place k a le e (inr (inr more)) = absurd (omega arith)

-- all arcs start below p
pub first_past : (arcs : List Arc) (p n : ℕ) → length arcs ≤ n → ((k : ℕ) (a : Arc) → k < n → slice_get arcs k ≡ Some a → a.from < p) → IsFirstFrom arcs p (length arcs)
first_past arcs p n end earlier = record {
  within = omega arith;
  earlier = λ k a less e. earlier k a (omega arith) e;
  later = λ k a le e. absurd (omega (arith, slice_get_within arcs k a e));
}

-- arc n starts below p too
pub earlier_more : (arcs : List Arc) (p n : ℕ) (d : Arc) → (get_or arcs n d).from < p → ((k : ℕ) (a : Arc) → k < n → slice_get arcs k ≡ Some a → a.from < p) → (k : ℕ) (a : Arc) → k < n + 1 → slice_get arcs k ≡ Some a → a.from < p
earlier_more arcs p n d here earlier k a less e = elim (cases_order k n) [
  | inl same ↦ subst (λ (x : Arc). x.from < p) (get_or_from_slice_get arcs n a d (subst (λ (m : ℕ). slice_get arcs m ≡ Some a) same e)) here
  | inr (inl below) ↦ earlier k a below e
  | inr (inr above) ↦ absurd (omega arith)
]

-- arc n ends elsewhere
pub not_here : (arcs items : List Arc) (from to n : ℕ) (x : Arc) → arcs ≡ items → x ≡ get_or items n x → (x.to ≡ to → ⊥) → IsNumberOf arcs from to n → ⊥
not_here arcs items from to n x e read other is =
    let f = get_or_from_slice_get items n is.arc x (subst (λ (xs : List Arc). slice_get xs n ≡ Some is.arc) e is.arc_is) in
    other (ap (λ (a : Arc). a.to) (read ∙ f) ∙ is.end)

-- none of the arcs up to n joins the points
pub none_more : (arcs : List Arc) (from to first n : ℕ) → ((k : ℕ) → first ≤ k → k < n → IsNumberOf arcs from to k → ⊥) → (IsNumberOf arcs from to n → ⊥) → (k : ℕ) → first ≤ k → k < n + 1 → IsNumberOf arcs from to k → ⊥
none_more arcs from to first n before here k le less is = elim (cases_order k n) [
  | inl same ↦ here (subst (λ (m : ℕ). IsNumberOf arcs from to m) same is)
  | inr (inl below) ↦ before k le below is
  | inr (inr above) ↦ absurd (omega arith)
]

-- no arc joins the points where none of those from the start does
pub none_joins : (arcs : List Arc) (from to first past n : ℕ) → IsFirstFrom arcs from first → IsFirstFrom arcs (from + 1) past → past ≤ n → ((k : ℕ) → first ≤ k → k < n → IsNumberOf arcs from to k → ⊥) → (k : ℕ) → IsNumberOf arcs from to k → ⊥
none_joins arcs from to first past n f g end before k is = elim (cases_lt k first) [
  | inl below ↦ absurd (omega (arith, f.earlier k is.arc below is.arc_is, is.start))
  | inr le ↦ elim (cases_lt k past) [
    | inl less ↦ before k le (omega arith) is
    | inr more ↦ absurd (omega (arith, g.later k is.arc more is.arc_is, is.start))
  ]
]

-- an item of a list with one more is an item of the list or that one
push_cases : {X : Type 0} → (xs : List X) (y : X) (k : ℕ) (x : X) → slice_get (xs ++ y ∷ []) k ≡ Some x → (slice_get xs k ≡ Some x) ⊎ ((k ≡ length xs) × (y ≡ x))
push_cases [] y zero x e = inr (refl, cc)
push_cases [] y (suc k) x e = absurd (cc)
push_cases (z ∷ xs) y zero x e = inl e
push_cases (z ∷ xs) y (suc k) x e = elim (push_cases xs y k x e) [ inl f ↦ inl f | inr (f, g) ↦ inr (ap suc f, g) ]

-- the numbers of the arcs that end in the next point
pub into_more : (arcs : List Arc) (into new : List (List ℕ)) (q : ℕ) (numbers : List ℕ) → new ≡ into ++ numbers ∷ [] → length into ≡ q → AreAllInto arcs into → AreNumbersInto arcs q numbers → AreAllInto arcs new
into_more arcs into new q numbers e count before here k ns is = elim (push_cases into numbers k ns (subst (λ (xs : List (List ℕ)). slice_get xs k ≡ Some ns) e is)) [
  | inl f ↦ before k ns f
  | inr (f, g) ↦ subst (AreNumbersInto arcs k) g (subst (λ (m : ℕ). AreNumbersInto arcs m numbers) (sym (f ∙ count)) here)
]

-- one list more
pub count_more : (into new : List (List ℕ)) (q : ℕ) (numbers : List ℕ) → new ≡ into ++ numbers ∷ [] → length into ≡ q → length new ≡ q + 1
count_more into new q numbers e count = ap (length {A = List ℕ}) e ∙ length_push into numbers ∙ ap (λ (n : ℕ). n + 1) count

-- the tables of all points reach past every start and every end
pub tables_of : (s : Site) (arcs : List Arc) (first : List ℕ) (into : List (List ℕ)) → AreArcs s arcs → length arcs ≤ 65280 → AreFirst arcs first → length first ≡ length s.points → AreAllInto arcs into → length into ≡ length s.points → AreTables arcs first into
tables_of s arcs first into are count first_is firsts into_is intos = record {
  in_order = are.in_order;
  count = count;
  first_is = first_is;
  starts = λ k d less. let c = are.candidates k d less in omega (arith, firsts, slice_get_within s.points (get_or arcs k d).from c.from c.from_is);
  into_is = into_is;
  ends = λ k d less. let c = are.candidates k d less in omega (arith, intos, slice_get_within s.points (get_or arcs k d).to c.to c.to_is);
}
