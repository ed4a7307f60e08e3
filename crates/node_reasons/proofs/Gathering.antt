-- Used arcs, gathered one after another.
use Rattle.std.proofs.Common.{◌≡◌, ◌≢◌, ℕ, zero, suc, ◌+◌, ◌<◌, ◌≤◌, List, [], ◌∷◌, ◌++◌, length, take, slice_get, Some, None, Option, Bool, true, false, cond, eq-eqb, inl, inr, ◌⊎◌, arith, refl, sym, ap, ◌∙◌, subst}
use Rattle.std.specs.Prelude.{◌==◌, is_some}
use Rattle.std.proofs.lemmas.List.{length_push, append-nil}
use Rattle.std.proofs.lemmas.Option.{slice_get_within, same_Some}
use Rattle.std.proofs.lemmas.Bool.{eqb-true, cases_lt}
use Rattle.cable_definitions.specs.declared.cable.Cable.{Cable}
use Rattle.cable_definitions.specs.declared.cable.Arc.{Arc}
use Rattle.cable_definitions.specs.declared.row.Mark.{Mark}
use Rattle.cable_definitions.specs.declared.row.Mark.TheVariants.{Free, Used, Unused}
use Rattle.cable_definitions.specs.Site.{Site, IsValid}
use Rattle.cable_definitions.specs.Arcs.{AreArcs, ArcBefore, IsCandidate}
use Rattle.cable_definitions.specs.Walk.{cable_out}
use Rattle.cable_definitions.specs.Layout.{Starts}
use Rattle.cable_definitions.specs.Tree.{used_cables}
use Rattle.layout_laws.specs.Alike.{SameOuts}
use Rattle.proof_laws.proofs.Boxes.{append_left, append_right, append_either}
use Rattle.proof_laws.proofs.Lists.{pairs_at, some_at}
use Rattle.layout_laws.proofs.Typing.{all-at}
use Rattle.node_reasons.specs.Used.{UsedList, with_used, with_same_start, IsUsed, StartAlike, AreUsedBelow, IsNextStart}

-- ---- one arc more
-- the cable of an arc, of type 0
abbrev pub cable_on : Arc → Cable
cable_on a = record { from = a.from; to = a.to; grade = 0 }

-- the cable of an arc where its mark is used
abbrev pub one_used : Arc → Mark → List Cable
one_used a Free = []
one_used a Used = cable_on a ∷ []
one_used a Unused = []

-- the used cables of one arc more
pub used_more : (arcs : List Arc) (marks : List Mark) (n : ℕ) (a : Arc) (m : Mark) → slice_get arcs n ≡ Some a → slice_get marks n ≡ Some m
    → used_cables (take (suc n) arcs) (take (suc n) marks) ≡ used_cables (take n arcs) (take n marks) ++ one_used a m
used_more [] marks n a m e f = absurd (cc)
used_more (x ∷ xs) [] n a m e f = absurd (cc)
used_more (x ∷ xs) (y ∷ ys) zero a m e f =
    let p : x ≡ a = cc in
    let q : y ≡ m = cc in
    first y ∙ (λ i. one_used (p i) (q i))
  where
    first : (mark : Mark) → used_cables (x ∷ []) (mark ∷ []) ≡ one_used x mark
    first Free = refl
    first Used = refl
    first Unused = refl
used_more (x ∷ xs) (Free ∷ ys) (suc n) a m e f = used_more xs ys n a m e f
used_more (x ∷ xs) (Unused ∷ ys) (suc n) a m e f = used_more xs ys n a m e f
used_more (x ∷ xs) (Used ∷ ys) (suc n) a m e f = ap (λ zs. cable_on x ∷ zs) (used_more xs ys n a m e f)

-- the first of two, where there is one
abbrev pub first_of : Option Cable → Option Cable → Option Cable
first_of None o = o
first_of (Some c) o = Some c

-- the first cable out of a point with one cable more at the end
pub cable_out-push : (xs : List Cable) (c : Cable) (p : ℕ) → cable_out (xs ++ c ∷ []) p ≡ first_of (cable_out xs p) (cond (c.from == p) (Some c) None)
cable_out-push [] c p = refl
cable_out-push (x ∷ xs) c p = by_test (cable_out-push xs c p) (x.from == p) refl
  where
    by_test : cable_out (xs ++ c ∷ []) p ≡ first_of (cable_out xs p) (cond (c.from == p) (Some c) None)
        → (b : Bool) → (x.from == p) ≡ b → cond (x.from == p) (Some x) (cable_out (xs ++ c ∷ []) p) ≡ first_of (cond (x.from == p) (Some x) (cable_out xs p)) (cond (c.from == p) (Some c) None)
    by_test rest true t =
        ap (λ b. cond b (Some x) (cable_out (xs ++ c ∷ []) p)) t
        ∙ sym (ap (λ b. first_of (cond b (Some x) (cable_out xs p)) (cond (c.from == p) (Some c) None)) t)
    by_test rest false t =
        ap (λ b. cond b (Some x) (cable_out (xs ++ c ∷ []) p)) t
        ∙ rest
        ∙ sym (ap (λ b. first_of (cond b (Some x) (cable_out xs p)) (cond (c.from == p) (Some c) None)) t)

-- one cable more keeps the first cables out of points, if its start has one
pub cable_out-kept : (xs : List Cable) (c : Cable) → Starts xs c.from → SameOuts xs (xs ++ c ∷ [])
cable_out-kept xs c s = λ p. sym (cable_out-push xs c p ∙ by_test p (c.from == p) refl)
  where
    some_first : (o q : Option Cable) → is_some o ≡ true → first_of o q ≡ o
    some_first None q h = absurd (cc)
    some_first (Some d) q h = refl

    none_second : (o : Option Cable) → first_of o None ≡ o
    none_second None = refl
    none_second (Some d) = refl

    by_test : (p : ℕ) (b : Bool) → (c.from == p) ≡ b → first_of (cable_out xs p) (cond (c.from == p) (Some c) None) ≡ cable_out xs p
    by_test p true t = some_first (cable_out xs p) (cond (c.from == p) (Some c) None) (subst (λ (q : ℕ). is_some (cable_out xs q) ≡ true) (eqb-true c.from p t) s)
    by_test p false t = ap (λ b. first_of (cable_out xs p) (cond b (Some c) None)) t ∙ none_second (cable_out xs p)

-- its start has one then
pub Starts-push : (xs : List Cable) (c : Cable) → Starts (xs ++ c ∷ []) c.from
Starts-push xs c = ap is_some (cable_out-push xs c c.from ∙ ap (λ b. first_of (cable_out xs c.from) (cond b (Some c) None)) (eq-eqb c.from c.from refl)) ∙ by_first (cable_out xs c.from)
  where
    by_first : (o : Option Cable) → is_some (first_of o (Some c)) ≡ true
    by_first None = refl
    by_first (Some d) = refl

-- one cable more on lists with the same first cables
pub outs-push : (xs ys : List Cable) (c : Cable) → SameOuts xs ys → SameOuts (xs ++ c ∷ []) (ys ++ c ∷ [])
outs-push xs ys c h = λ p. cable_out-push xs c p ∙ ap (λ o. first_of o (cond (c.from == p) (Some c) None)) (h p) ∙ sym (cable_out-push ys c p)

-- ---- the steps
-- the used cables below a number
abbrev pub used_below : List Arc → List Mark → ℕ → List Cable
used_below arcs marks n = used_cables (take n arcs) (take n marks)

used_next : (arcs : List Arc) (marks : List Mark) (n : ℕ) (a : Arc) (m : Mark) → slice_get arcs n ≡ Some a → slice_get marks n ≡ Some m
    → used_below arcs marks (n + 1) ≡ used_below arcs marks n ++ one_used a m
used_next arcs marks n a m e f = ap (used_below arcs marks) (let q : n + 1 ≡ suc n = omega arith in q) ∙ used_more arcs marks n a m e f

-- numbers below a further one
below_or : (k n : ℕ) → k < n + 1 → (k < n) ⊎ (k ≡ n)
below_or k n h = elim (cases_lt k n) [
  | inl l ↦ inl l
  | inr l ↦ inr (omega arith)
]

-- an arc that isn't used
pub unused_step : (arcs : List Arc) (marks : List Mark) (n : ℕ) (m : Mark) (used : UsedList) → n < length arcs → slice_get marks n ≡ Some m → m ≢ Used
    → AreUsedBelow arcs marks n used → AreUsedBelow arcs marks (n + 1) used
unused_step arcs marks n m used l f h u =
    let a = some_at arcs n l in
    let same : used_below arcs marks (n + 1) ≡ used_below arcs marks n = used_next arcs marks n a.0 m a.1 f ∙ nothing m h (used_below arcs marks n) a.0 in
    record {
      outs = λ p. u.outs p ∙ ap (λ (xs : List Cable). cable_out xs p) (sym same);
      few = u.few;
      numbered = u.numbered;
      same_start = u.same_start;
      same = λ e. u.same e ∙ sym same;
      all = λ e k arc k_below is. elim (below_or k n k_below) [
        | inl less ↦ u.all e k arc less is
        | inr here ↦ absurd (h (let g : Some m ≡ Some Used = sym f ∙ ap (slice_get marks) (sym here) ∙ is.is_used in (cc)))
      ];
    }
  where
    nothing : (mark : Mark) → mark ≢ Used → (xs : List Cable) (arc : Arc) → xs ++ one_used arc mark ≡ xs
    nothing Free g xs arc = append-nil xs
    nothing Used g xs arc = absurd (g refl)
    nothing Unused g xs arc = append-nil xs

-- a used arc that starts like the last one
pub same_start_step : (arcs : List Arc) (marks : List Mark) (n : ℕ) (a : Arc) (used : UsedList) (last next : ℕ) → slice_get arcs n ≡ Some a → slice_get marks n ≡ Some Used → a.from < next
    → AreUsedBelow arcs marks n used → IsNextStart arcs marks n used last next → AreUsedBelow arcs marks (n + 1) (with_same_start used last n)
same_start_step arcs marks n a used last next e f l u x =
    let before = x.last_is (omega arith) in
    let later = x.later n a (omega arith) e in
    let alike : before.0.from ≡ a.from = (let q = before.3 in omega arith) in
    let more : used_below arcs marks (n + 1) ≡ used_below arcs marks n ++ cable_on a ∷ [] = used_next arcs marks n a Used e f in
    let starts : Starts used.cables a.from = subst (Starts used.cables) alike before.4 in
    record {
      outs = λ p. cable_out-kept used.cables (cable_on a) starts p ∙ outs-push used.cables (used_below arcs marks n) (cable_on a) u.outs p ∙ ap (λ (xs : List Cable). cable_out xs p) (sym more);
      few = u.few;
      numbered = u.numbered;
      same_start = λ b c g.
          let pair = same_Some {A = ℕ × ℕ} (last, n) (b, c) g in
          let first : last ≡ b = ap (λ (z : ℕ × ℕ). z.0) pair in
          let second : n ≡ c = ap (λ (z : ℕ × ℕ). z.1) pair in
          subst (λ (k : ℕ). StartAlike arcs marks b k) second (subst (λ (k : ℕ). StartAlike arcs marks k n) first
          (record { first = before.0; second = a; first_is = before.1; second_is = record { is_arc = e; is_used = f }; before = before.2; alike = alike }));
      same = λ g. absurd (cc);
      all = λ g. absurd (cc);
    }

-- a used arc that starts in a later point
pub push_step : (arcs : List Arc) (marks : List Mark) (n : ℕ) (a : Arc) (used : UsedList) (last next : ℕ) → slice_get arcs n ≡ Some a → slice_get marks n ≡ Some Used → next ≤ a.from
    → a.from < 256 → AreUsedBelow arcs marks n used → IsNextStart arcs marks n used last next → AreUsedBelow arcs marks (n + 1) (with_used used n (cable_on a))
push_step arcs marks n a used last next e f l w u x =
    let more : used_below arcs marks (n + 1) ≡ used_below arcs marks n ++ cable_on a ∷ [] = used_next arcs marks n a Used e f in
    let count = length_push used.cables (cable_on a) in
    let few = x.few in
    record {
      outs = λ p. outs-push used.cables (used_below arcs marks n) (cable_on a) u.outs p ∙ ap (λ (xs : List Cable). cable_out xs p) (sym more);
      few = omega arith;
      numbered = λ j k g. elim (append_either used.numbers (n ∷ []) j k g) [
        | inl h ↦ u.numbered j k h
        | inr r ↦ last_number k r.0 r.2
      ];
      same_start = u.same_start;
      same = λ g. ap (λ (xs : List Cable). xs ++ cable_on a ∷ []) (u.same g) ∙ sym more;
      all = λ g k arc k_below is. elim (below_or k n k_below) [
        | inl less ↦ (let r = u.all g k arc less is in (r.0, append_left used.numbers (n ∷ []) r.0 k r.1))
        | inr here ↦ (length used.numbers + 0, append_right used.numbers (n ∷ []) 0 ∙ ap Some (sym here))
      ];
    }
  where
    last_number : (k j : ℕ) → slice_get (n ∷ []) j ≡ Some k → (arc : Arc) × IsUsed arcs marks k arc
    last_number k zero g =
        let same : n ≡ k = cc in
        (a, subst (λ (i : ℕ). IsUsed arcs marks i a) same (record { is_arc = e; is_used = f }))
    last_number k (suc j) g = absurd (cc)

-- and is the last one then
pub next_step : (s : Site) (arcs : List Arc) (marks : List Mark) (n : ℕ) (a : Arc) (used : UsedList) (last next : ℕ) → AreArcs s arcs → slice_get arcs n ≡ Some a → slice_get marks n ≡ Some Used → next ≤ a.from
    → a.from < 256 → IsNextStart arcs marks n used last next → IsNextStart arcs marks (n + 1) (with_used used n (cable_on a)) n (a.from + 1)
next_step s arcs marks n a used last next are e f l w x =
    let count = length_push used.cables (cable_on a) in
    let few = x.few in
    record {
      few = omega arith;
      within = omega arith;
      last_is = λ _. (a, record { is_arc = e; is_used = f }, (omega arith), refl, Starts-push used.cables (cable_on a));
      later = λ k b h g. by_order b (pairs_at ArcBefore arcs are.in_order n k a b (omega arith) e g);
    }
  where
    by_order : (b : Arc) → ArcBefore a b → a.from + 1 ≤ b.from + 1
    by_order b (inl less) = omega arith
    by_order b (inr (same, less)) = omega arith

-- an arc of a valid site starts in a point, of which there are at most 256
pub starts_within : (s : Site) (arcs : List Arc) (n : ℕ) (a : Arc) → IsValid s → AreArcs s arcs → slice_get arcs n ≡ Some a → a.from < length s.points
starts_within s arcs n a v are e = slice_get_within s.points a.from _ (all-at (λ b. IsCandidate s b.from b.to) arcs n a are.candidates e).from_is

-- and ends in one
pub ends_within : (s : Site) (arcs : List Arc) (n : ℕ) (a : Arc) → IsValid s → AreArcs s arcs → slice_get arcs n ≡ Some a → a.to < length s.points
ends_within s arcs n a v are e = slice_get_within s.points a.to _ (all-at (λ b. IsCandidate s b.from b.to) arcs n a are.candidates e).to_is
