-- Sums of extremes over some of the arcs: none, one, those of two tests, and all that a row may count.
use Rattle.std.proofs.Common.{◌≡◌, ◌≢◌, ℕ, zero, suc, ◌+◌, ◌-◌, ◌<◌, ◌≤◌, inl, inr, ◌⊎◌, ℤ, pos, neg_ℤ, ◌+ℤ◌, ◌-ℤ◌, ◌*ℤ◌, cond, Bool, true, false, List, [], ◌∷◌, length, get_or, take, slice_get, Option, Some, None, refl, ap, sym, ◌∙◌, subst, arith}
use Rattle.std.specs.Prelude.{All, AllPairs, IsTrue, ◌||◌, ◌&&◌, ◌==◌, not, nat_lt}
use Rattle.std.proofs.lemmas.Bool.{ltb-true, lt-ltb, cases_lt, eqb-true}
use Rattle.std.proofs.lemmas.Bool.Decides.{eqb_tells}
use Rattle.std.proofs.lemmas.Int.{ints}
use Rattle.std.proofs.lemmas.List.{take_more}
use Rattle.std.proofs.lemmas.List.Folds.{list_any-append}
use Rattle.std.proofs.lemmas.Option.{slice_get_within, slice_get-get_or}
use Rattle.cable_definitions.specs.declared.cable.Arc.{Arc}
use Rattle.cable_definitions.specs.declared.row.Mark.{Mark}
use Rattle.cable_definitions.specs.declared.row.Mark.TheVariants.{Free, Used, Unused}
use Rattle.cable_definitions.specs.declared.row.RowKind.{RowKind}
use Rattle.cable_definitions.specs.declared.row.RowKind.TheVariants.{Out, Flow, Inlet, Bend, Power, One, Cut}
use Rattle.cable_definitions.specs.Site.{Site, IsValid}
use Rattle.cable_definitions.specs.Arcs.{AreArcs, IsCandidate}
use Rattle.cable_definitions.specs.Sums.{sum_int}
use Rattle.cable_definitions.specs.Row.{Row, is_member, has_one_member, one_if, on_use, on_load}
use Rattle.cable_definitions.specs.Choice.{Choice, NoCable, Carries, use_of, load_of, IsChoice, IsExtreme, AreExtremes, IsSumOfExtremes}
use Rattle.cable_definitions.specs.Tree.{counted}
use Rattle.number_laws.proofs.Ring.{nat, plus, times, same_value}
use Rattle.number_laws.proofs.Sums.{sum_int-cons}
use Rattle.layout_laws.proofs.Typing.{all-at}
use Rattle.proof_laws.proofs.Decided.{arc_choice}
use Rattle.proof_laws.proofs.Lists.{list_any-at, list_any-place, false_from, true_or_false, both, both_pass, eqb_swapped, some_at}
use Rattle.candidate_cables.specs.Tables.{IsFirstFrom, AreNumbersInto}
use Rattle.cable_rows.proofs.Tables.{not_earlier}
use Rattle.node_reasons.specs.Extents.{IsUpTo}
use Rattle.node_reasons.specs.Own.{starts_in, values, IsExtremeAt, IsSumAt, start_points, AreFurther}

-- whether a number below n is that of an arc that starts in one of these points
abbrev pub starts_below : List Arc → List ℕ → ℕ → ℕ → Bool
starts_below arcs points n a = nat_lt a n && starts_in points (slice_get arcs a)

-- ---- sums of values
-- what a list sums to
abbrev total : List ℤ → ℤ
total zs = sum_int (λ z. z) zs

more : (z : ℤ) (zs : List ℤ) → total (z ∷ zs) ≡ z +ℤ total zs
more z zs = sum_int-cons (λ (x : ℤ). x) z zs

values_none : (k n : ℕ) → total (values (λ a. pos 0) k n) ≡ pos 0
values_none k zero = refl
values_none k (suc n) = let m = more (pos 0) (values (λ a. pos 0) (k + 1) n) in let r = values_none (k + 1) n in omega (arith, ints, m, r)

values_join : (f g : ℕ → ℤ) (k n : ℕ) → total (values (λ a. f a +ℤ g a) k n) ≡ total (values f k n) +ℤ total (values g k n)
values_join f g k zero = refl
values_join f g k (suc n) =
    let m = more (f k +ℤ g k) (values (λ a. f a +ℤ g a) (k + 1) n) in
    let x = more (f k) (values f (k + 1) n) in
    let y = more (g k) (values g (k + 1) n) in
    let r = values_join f g (k + 1) n in
    omega (arith, ints, m, x, y, r)

-- one value alone, at a number before these
abbrev one_value : ℕ → ℤ → ℕ → ℤ
one_value a z x = cond (x == a) z (pos 0)

one_there : (a x : ℕ) (z : ℤ) → x ≡ a → one_value a z x ≡ z
one_there a x z e = elim (eqb_tells x a) [ inl t ↦ ap (λ (b : Bool). cond b z (pos 0)) t.0 | inr t ↦ absurd (t.1 e) ]

one_elsewhere : (a x : ℕ) (z : ℤ) → x ≢ a → one_value a z x ≡ pos 0
one_elsewhere a x z n = elim (eqb_tells x a) [ inl t ↦ absurd (n t.1) | inr t ↦ ap (λ (b : Bool). cond b z (pos 0)) t.0 ]

one_before : (a k n : ℕ) (z : ℤ) → a < k → total (values (one_value a z) k n) ≡ pos 0
one_before a k zero z l = refl
one_before a k (suc n) z l =
    let m = more (one_value a z k) (values (one_value a z) (k + 1) n) in
    let e = one_elsewhere a k z (λ q. omega (arith, q, l)) in
    let r = one_before a (k + 1) n z (omega (arith, l)) in
    omega (arith, ints, m, e, r)

one_within : (a k n : ℕ) (z : ℤ) → k ≤ a → a < k + n → total (values (one_value a z) k n) ≡ z
one_within a k zero z l h = absurd (omega (arith, l, h))
one_within a k (suc n) z l h =
    let m = more (one_value a z k) (values (one_value a z) (k + 1) n) in
    elim (cases_lt k a) [
      | inl lt ↦
          let e = one_elsewhere a k z (λ q. omega (arith, q, lt)) in
          let r = one_within a (k + 1) n z (omega (arith, lt)) (omega (arith, h)) in
          omega (arith, ints, m, e, r)
      | inr ge ↦
          let same : k ≡ a = omega (arith, l, ge) in
          let e = one_there a k z same in
          let r = one_before a (k + 1) n z (omega (arith, same)) in
          omega (arith, ints, m, e, r)
    ]

-- ---- sums over some arcs
-- over none
pub sum_none : (R : ℤ → ℤ → Type 0) (s : Site) (arcs : List Arc) (marks : List Mark) (f : ℕ → Arc → Choice → ℤ) (test : ℕ → Bool) → ((a : ℕ) → test a ≡ false) → IsSumAt R s arcs marks f test (pos 0)
sum_none R s arcs marks f test none = record {
  value_at = λ a. pos 0;
  elsewhere = λ a l e. refl;
  extremes = λ a l t. absurd (let g : true ≡ false = sym t ∙ none a in cc);
  sum = sym (values_none 0 (length arcs));
}

-- over one
pub sum_one : (R : ℤ → ℤ → Type 0) (s : Site) (arcs : List Arc) (marks : List Mark) (f : ℕ → Arc → Choice → ℤ) (a : ℕ) (z : ℤ) → a < length arcs → IsExtremeAt R s arcs marks f a z → IsSumAt R s arcs marks f (λ x. x == a) z
sum_one R s arcs marks f a z l e = record {
  value_at = one_value a z;
  elsewhere = λ x within t. ap (λ (b : Bool). cond b z (pos 0)) t;
  extremes = λ x within t.
      let same : x ≡ a = eqb-true x a t in
      subst (λ (y : ℤ). IsExtremeAt R s arcs marks f x y) (sym (ap (λ (b : Bool). cond b z (pos 0)) t)) (subst (λ (y : ℕ). IsExtremeAt R s arcs marks f y z) (sym same) e);
  sum = sym (one_within a 0 (length arcs) z (omega arith) (omega (arith, l)));
}

-- over the arcs of either of two tests that none passes both of
pub sum_join : (R : ℤ → ℤ → Type 0) (s : Site) (arcs : List Arc) (marks : List Mark) (f : ℕ → Arc → Choice → ℤ) (d e : ℕ → Bool) (x y : ℤ) → IsSumAt R s arcs marks f d x → IsSumAt R s arcs marks f e y
    → ((a : ℕ) → a < length arcs → d a ≡ true → e a ≡ false) → IsSumAt R s arcs marks f (λ a. d a || e a) (x +ℤ y)
sum_join R s arcs marks f d e x y p q apart = record {
  value_at = λ a. p.value_at a +ℤ q.value_at a;
  elsewhere = λ a l t.
      let none = neither (d a) (e a) t in
      let g = p.elsewhere a l none.0 in
      let h = q.elsewhere a l none.1 in
      omega (arith, ints, g, h);
  extremes = λ a l t. elim (true_or_false (d a)) [
    | inl u ↦
        let h = q.elsewhere a l (apart a l u) in
        let same : p.value_at a ≡ p.value_at a +ℤ q.value_at a = omega (arith, ints, h) in
        subst (λ (z : ℤ). IsExtremeAt R s arcs marks f a z) same (p.extremes a l u)
    | inr u ↦
        let h = p.elsewhere a l u in
        let same : q.value_at a ≡ p.value_at a +ℤ q.value_at a = omega (arith, ints, h) in
        subst (λ (z : ℤ). IsExtremeAt R s arcs marks f a z) same (q.extremes a l (second (d a) (e a) u t))
  ];
  sum = (λ i. p.sum i +ℤ q.sum i) ∙ sym (values_join p.value_at q.value_at 0 (length arcs));
}
  where
    neither : (b c : Bool) → (b || c) ≡ false → (b ≡ false) × (c ≡ false)
    neither true c t = absurd (cc)
    neither false c t = (refl, t)

    second : (b c : Bool) → b ≡ false → (b || c) ≡ true → c ≡ true
    second true c u t = absurd (cc)
    second false c u t = t

-- over the arcs of another test that passes the same
pub sum_alike : (R : ℤ → ℤ → Type 0) (s : Site) (arcs : List Arc) (marks : List Mark) (f : ℕ → Arc → Choice → ℤ) (d e : ℕ → Bool) (x : ℤ) → IsSumAt R s arcs marks f d x → ((a : ℕ) → a < length arcs → d a ≡ e a) → IsSumAt R s arcs marks f e x
sum_alike R s arcs marks f d e x p same = record {
  value_at = p.value_at;
  elsewhere = λ a l t. p.elsewhere a l (same a l ∙ t);
  extremes = λ a l t. p.extremes a l (same a l ∙ t);
  sum = p.sum;
}

-- over all arcs, where the others have 0 as their extreme
pub sum_whole : (R : ℤ → ℤ → Type 0) (s : Site) (arcs : List Arc) (marks : List Mark) (f : ℕ → Arc → Choice → ℤ) (test : ℕ → Bool) (x : ℤ) → length marks ≡ length arcs → IsSumAt R s arcs marks f test x
    → ((a : ℕ) → a < length arcs → test a ≡ false → IsExtremeAt R s arcs marks f a (pos 0)) → IsSumOfExtremes R s arcs marks f x
sum_whole R s arcs marks f test x count p others = record { extremes = values p.value_at 0 (length arcs); are_extremes = by_arcs 0 arcs marks count at; sum = p.sum }
  where
    at : (i : ℕ) (arc : Arc) (mark : Mark) → slice_get arcs i ≡ Some arc → slice_get marks i ≡ Some mark → IsExtreme R s arc mark (f (0 + i) arc) (p.value_at (0 + i))
    at i arc mark e g =
        let l = slice_get_within arcs i arc e in
        let o : 0 + i ≡ i = omega arith in
        subst (λ (n : ℕ). IsExtreme R s arc mark (f n arc) (p.value_at n)) (sym o)
        (elim (true_or_false (test i)) [
          | inl t ↦ p.extremes i l t arc mark e g
          | inr t ↦ subst (λ (z : ℤ). IsExtreme R s arc mark (f i arc) z) (sym (p.elsewhere i l t)) (others i l t arc mark e g)
        ])

    by_arcs : (k : ℕ) (bs : List Arc) (ms : List Mark) → length ms ≡ length bs → ((i : ℕ) (arc : Arc) (mark : Mark) → slice_get bs i ≡ Some arc → slice_get ms i ≡ Some mark → IsExtreme R s arc mark (f (k + i) arc) (p.value_at (k + i)))
        → AreExtremes R s f k bs ms (values p.value_at k (length bs))
    by_arcs k [] [] e h = tt
    by_arcs k [] (m ∷ ms) e h = absurd (omega (arith, e))
    by_arcs k (b ∷ bs) [] e h = absurd (omega (arith, e))
    by_arcs k (b ∷ bs) (m ∷ ms) e h = (
      let o : k + 0 ≡ k = omega arith in subst (λ (n : ℕ). IsExtreme R s b m (f n b) (p.value_at n)) o (h 0 b m refl refl),
      by_arcs (k + 1) bs ms (omega (arith, e)) (λ i arc mark g j. (let o : k + suc i ≡ (k + 1) + i = omega arith in subst (λ (n : ℕ). IsExtreme R s arc mark (f n arc) (p.value_at n)) o (h (suc i) arc mark g j))),
    )

-- ---- arcs that a row doesn't count
-- an arc that counts as nothing has 0 as its extreme
pub nothing_at : (R : ℤ → ℤ → Type 0) → ((x : ℤ) → R x x) → (s : Site) (arcs : List Arc) (marks : List Mark) (row : Row) (a : ℕ) → IsValid s → AreArcs s arcs
    → ((arc : Arc) → slice_get arcs a ≡ Some arc → (on_use row.kind row.members a arc.from arc.to ≡ pos 0) × (on_load row.kind row.members arc.from arc.to ≡ pos 0)) → IsExtremeAt R s arcs marks (counted row) a (pos 0)
nothing_at R same s arcs marks row a v are none arc mark e g =
    let c = choice mark in
    record {
      choice = c.0;
      is_choice = c.1;
      reached = nothing c.0;
      none_beyond = λ other k. subst (λ (z : ℤ). R (pos 0) z) (nothing other) (same (pos 0));
    }
  where
    choice : (m : Mark) → (c : Choice) × IsChoice s arc m c
    choice Free = (NoCable, λ q. cc)
    choice Unused = (NoCable, λ q. cc)
    choice Used = let c = arc_choice s v arc (all-at (λ (x : Arc). IsCandidate s x.from x.to) arcs a arc are.candidates e) in (Carries c.0 c.1, c.2)

    nothing : (c : Choice) → pos 0 ≡ counted row a arc c
    nothing c =
        let n = none arc e in
        sym ((λ i. n.0 i *ℤ pos (use_of c) +ℤ n.1 i *ℤ pos (load_of c)) ∙ same_value (plus (times (nat 0) (nat (use_of c))) (times (nat 0) (nat (load_of c)))) (nat 0) (omega arith))

-- ---- tests
-- tests that each pass where the other passes are the same
same_tests : (b c : Bool) → (b ≡ true → c ≡ true) → (c ≡ true → b ≡ true) → b ≡ c
same_tests true true h k = refl
same_tests true false h k = sym (h refl)
same_tests false true h k = k refl
same_tests false false h k = refl

or_either : (b c : Bool) → (b || c) ≡ true → (b ≡ true) ⊎ (c ≡ true)
or_either true c t = inl refl
or_either false c t = inr t

or_left : (b c : Bool) → b ≡ true → (b || c) ≡ true
or_left b c t = ap (λ (x : Bool). x || c) t

or_right : (b c : Bool) → c ≡ true → (b || c) ≡ true
or_right true c t = refl
or_right false c t = t

or_false : (b : Bool) → (b || false) ≡ b
or_false true = refl
or_false false = refl

never : (b : Bool) → b ≡ true → b ≡ false → ⊥
never b t e = let g : true ≡ false = sym t ∙ e in cc

equal_test : (a b : ℕ) → a ≡ b → (a == b) ≡ true
equal_test a b e = elim (eqb_tells a b) [ inl t ↦ t.0 | inr t ↦ absurd (t.1 e) ]

other_test : (a b : ℕ) → a ≢ b → (a == b) ≡ false
other_test a b n = elim (eqb_tells a b) [ inl t ↦ absurd (n t.1) | inr t ↦ t.0 ]

single : (p x : ℕ) → is_member (p ∷ []) x ≡ true → x ≡ p
single p x t = sym (eqb-true p x (sym (or_false (p == x)) ∙ t))

single_from : (p x : ℕ) → x ≡ p → is_member (p ∷ []) x ≡ true
single_from p x e = or_left (p == x) false (equal_test p x (sym e))

-- an arc that starts in one of some points
starts_tells : (points : List ℕ) (o : Option Arc) → starts_in points o ≡ true → (arc : Arc) × (o ≡ Some arc) × (is_member points arc.from ≡ true)
starts_tells points None t = absurd (cc)
starts_tells points (Some arc) t = (arc, refl, t)

starts_from : (points : List ℕ) (o : Option Arc) (arc : Arc) → o ≡ Some arc → is_member points arc.from ≡ true → starts_in points o ≡ true
starts_from points o arc e t = ap (starts_in points) e ∙ t

below_tells : (arcs : List Arc) (p n a : ℕ) → starts_below arcs (p ∷ []) n a ≡ true → (a < n) × ((arc : Arc) × (slice_get arcs a ≡ Some arc) × (arc.from ≡ p))
below_tells arcs p n a t =
    let b = both (nat_lt a n) (starts_in (p ∷ []) (slice_get arcs a)) t in
    let s = starts_tells (p ∷ []) (slice_get arcs a) b.1 in
    (ltb-true a n b.0, (s.0, s.1, single p s.0.from s.2))

below_from : (arcs : List Arc) (p n a : ℕ) (arc : Arc) → a < n → slice_get arcs a ≡ Some arc → arc.from ≡ p → starts_below arcs (p ∷ []) n a ≡ true
below_from arcs p n a arc l e f = both_pass (nat_lt a n) (starts_in (p ∷ []) (slice_get arcs a)) (lt-ltb a n l) (starts_from (p ∷ []) (slice_get arcs a) arc e (single_from p arc.from f))

-- no arc before the first out of p starts there
pub outs_begin : (arcs : List Arc) (p first : ℕ) → IsFirstFrom arcs p first → (a : ℕ) → starts_below arcs (p ∷ []) first a ≡ false
outs_begin arcs p first h a = false_from (starts_below arcs (p ∷ []) first a) (λ t. (let b = below_tells arcs p first a t in let k = h.earlier a b.1.0 b.0 b.1.1 in let e = b.1.2 in omega (arith, k, e)))

-- one arc more
pub outs_more : (arcs : List Arc) (p first past n : ℕ) (arc : Arc) → IsFirstFrom arcs p first → IsFirstFrom arcs (p + 1) past → first ≤ n → n < past → slice_get arcs n ≡ Some arc
    → (a : ℕ) → a < length arcs → (starts_below arcs (p ∷ []) n a || (a == n)) ≡ starts_below arcs (p ∷ []) (n + 1) a
outs_more arcs p first past n arc h k l m e a within = same_tests (starts_below arcs (p ∷ []) n a || (a == n)) (starts_below arcs (p ∷ []) (n + 1) a) (λ t. on (or_either (starts_below arcs (p ∷ []) n a) (a == n) t)) back
  where
    here : arc.from ≡ p
    here = let x = h.later n arc l e in let y = k.earlier n arc m e in omega (arith, x, y)

    on : (starts_below arcs (p ∷ []) n a ≡ true) ⊎ ((a == n) ≡ true) → starts_below arcs (p ∷ []) (n + 1) a ≡ true
    on (inl t) = let b = below_tells arcs p n a t in let less = b.0 in below_from arcs p (n + 1) a b.1.0 (omega (arith, less)) b.1.1 b.1.2
    on (inr t) = let same : n ≡ a = sym (eqb-true a n t) in below_from arcs p (n + 1) a arc (omega (arith, same)) (subst (λ (x : ℕ). slice_get arcs x ≡ Some arc) same e) here

    back : starts_below arcs (p ∷ []) (n + 1) a ≡ true → (starts_below arcs (p ∷ []) n a || (a == n)) ≡ true
    back t =
        let b = below_tells arcs p (n + 1) a t in
        let less = b.0 in
        elim (cases_lt a n) [
          | inl lt ↦ or_left (starts_below arcs (p ∷ []) n a) (a == n) (below_from arcs p n a b.1.0 lt b.1.1 b.1.2)
          | inr ge ↦ or_right (starts_below arcs (p ∷ []) n a) (a == n) (equal_test a n (omega (arith, less, ge)))
        ]

-- it wasn't among those before it
pub outs_apart : (arcs : List Arc) (p n a : ℕ) → starts_below arcs (p ∷ []) n a ≡ true → (a == n) ≡ false
outs_apart arcs p n a t = let l = (below_tells arcs p n a t).0 in other_test a n (λ e. omega (arith, e, l))

-- all arcs out of p
pub outs_end : (arcs : List Arc) (p past n : ℕ) → IsFirstFrom arcs (p + 1) past → past ≤ n → (a : ℕ) → a < length arcs → starts_below arcs (p ∷ []) n a ≡ starts_in (p ∷ []) (slice_get arcs a)
outs_end arcs p past n h l a within = same_tests (starts_below arcs (p ∷ []) n a) (starts_in (p ∷ []) (slice_get arcs a)) (λ t. (both (nat_lt a n) (starts_in (p ∷ []) (slice_get arcs a)) t).1) back
  where
    back : starts_in (p ∷ []) (slice_get arcs a) ≡ true → starts_below arcs (p ∷ []) n a ≡ true
    back t =
        let s = starts_tells (p ∷ []) (slice_get arcs a) t in
        let e = single p s.0.from s.2 in
        elim (cases_lt a past) [
          | inl lt ↦ below_from arcs p n a s.0 (omega (arith, lt, l)) s.1 e
          | inr ge ↦ let k = h.later a s.0 ge s.1 in absurd (omega (arith, k, e))
        ]

-- ---- member by member
member_more : (members : List ℕ) (i x : ℕ) → i < length members → is_member (take (i + 1) members) x ≡ (is_member (take i members) x || is_member (get_or members i 0 ∷ []) x)
member_more members i x l = ap (λ (ms : List ℕ). is_member ms x) (take_more members i 0 l) ∙ list_any-append (λ n. n == x) (take i members) (get_or members i 0 ∷ [])

-- the arcs out of one point more
pub starts_more : (members : List ℕ) (i : ℕ) → i < length members → (o : Option Arc) → (starts_in (take i members) o || starts_in (get_or members i 0 ∷ []) o) ≡ starts_in (take (i + 1) members) o
starts_more members i l None = refl
starts_more members i l (Some arc) = sym (member_more members i arc.from l)

pub starts_apart : (members : List ℕ) (i : ℕ) → AllPairs (λ m n. m < n) members → i < length members → (o : Option Arc) → starts_in (take i members) o ≡ true → starts_in (get_or members i 0 ∷ []) o ≡ false
starts_apart members i h l None t = refl
starts_apart members i h l (Some arc) t = false_from (is_member (get_or members i 0 ∷ []) arc.from) (λ u. never (is_member (take i members) arc.from) t
    (subst (λ (x : ℕ). is_member (take i members) x ≡ false) (sym (single (get_or members i 0) arc.from u)) (not_earlier members i h l)))

-- one number more
pub among_more : (numbers : List ℕ) (i : ℕ) → i < length numbers → (a : ℕ) → (is_member (take i numbers) a || (a == get_or numbers i 0)) ≡ is_member (take (i + 1) numbers) a
among_more numbers i l a = ap (λ (b : Bool). is_member (take i numbers) a || b) (eqb_swapped a (get_or numbers i 0) ∙ sym (or_false (get_or numbers i 0 == a))) ∙ sym (member_more numbers i a l)

pub among_apart : (numbers : List ℕ) (i : ℕ) → AllPairs (λ m n. m < n) numbers → i < length numbers → (a : ℕ) → is_member (take i numbers) a ≡ true → (a == get_or numbers i 0) ≡ false
among_apart numbers i h l a t = false_from (a == get_or numbers i 0) (λ u. never (is_member (take i numbers) a) t
    (subst (λ (x : ℕ). is_member (take i numbers) x ≡ false) (sym (eqb-true a (get_or numbers i 0) u)) (not_earlier numbers i h l)))

-- a number past the arcs is that of none
pub among_skip : (numbers : List ℕ) (i n : ℕ) → i < length numbers → n ≤ get_or numbers i 0 → (a : ℕ) → a < n → is_member (take i numbers) a ≡ is_member (take (i + 1) numbers) a
among_skip numbers i n l past a within =
    sym (or_false (is_member (take i numbers) a)) ∙ ap (λ (b : Bool). is_member (take i numbers) a || b) (sym (other_test a (get_or numbers i 0) (λ e. omega (arith, e, past, within)))) ∙ among_more numbers i l a

-- ---- what a row may count
-- ascending numbers below n are at most n
ascending_above : (numbers : List ℕ) → AllPairs (λ m n. m < n) numbers → (i : ℕ) → i < length numbers → i ≤ get_or numbers i 0
ascending_above numbers h zero l = omega arith
ascending_above numbers h (suc i) l =
    let k = ascending_above numbers h i (omega (arith, l)) in
    let less = h i (suc i) 0 (omega arith) l in
    omega (arith, k, less)

few_below : (numbers : List ℕ) (n : ℕ) → AllPairs (λ m n. m < n) numbers → All (λ m. m < n) numbers → length numbers ≤ n
few_below numbers n h b = elim (cases_lt 0 (length numbers)) [
  | inl l ↦
      let last : length numbers - 1 < length numbers = omega (arith, l) in
      let k = ascending_above numbers h (length numbers - 1) last in
      let m = b (length numbers - 1) 0 last in
      omega (arith, l, k, m)
  | inr e ↦ omega (arith, e)
]

-- a number among those of the arcs into q
into_tells : (arcs : List Arc) (q : ℕ) (numbers : List ℕ) (a : ℕ) (arc : Arc) → AreNumbersInto arcs q numbers → slice_get arcs a ≡ Some arc → is_member numbers a ≡ true → arc.to ≡ q
into_tells arcs q numbers a arc h e t =
    let k = list_any-place (λ m. m == a) numbers t in
    let same : a ≡ k.1 = sym (eqb-true k.1 a k.3) in
    all-at (λ (m : ℕ). (x : Arc) → slice_get arcs m ≡ Some x → x.to ≡ q) numbers k.0 k.1 h.ends k.2 arc (subst (λ (x : ℕ). slice_get arcs x ≡ Some arc) same e)

into_from : (arcs : List Arc) (q : ℕ) (numbers : List ℕ) (a : ℕ) (arc : Arc) → AreNumbersInto arcs q numbers → slice_get arcs a ≡ Some arc → is_member numbers a ≡ false → arc.to ≢ q
into_from arcs q numbers a arc h e none same =
    let c = h.all a arc (slice_get_within arcs a arc e) e same in
    let at : slice_get numbers c.0 ≡ Some a = slice_get-get_or numbers c.0 a c.1 ∙ ap (λ (x : ℕ). Some x) c.2 in
    never (is_member numbers a) (list_any-at (λ m. m == a) numbers c.0 a at (equal_test a a refl)) none

-- a point that no arc out of some points starts in
not_started : (points : List ℕ) (arcs : List Arc) (a : ℕ) (arc : Arc) → slice_get arcs a ≡ Some arc → starts_in points (slice_get arcs a) ≡ false → is_member points arc.from ≡ false
not_started points arcs a arc e t = sym (ap (starts_in points) e) ∙ t

-- rows by the arcs out of their points alone
pub none_further : (arcs : List Arc) (row : Row) → (row.kind ≡ Out) ⊎ (row.kind ≡ Cut) → AreFurther arcs row []
none_further arcs row k = record {
  ascending = λ i j d l h. absurd (omega (arith, h));
  few = omega arith;
  apart = λ a t. refl;
  others = λ a arc e t u. by row.kind k arc.from (not_started (start_points row.kind row.members) arcs a arc e t) a arc.to;
}
  where
    by : (kind : RowKind) → (kind ≡ Out) ⊎ (kind ≡ Cut) → (p : ℕ) → is_member (start_points kind row.members) p ≡ false → (a q : ℕ) → (on_use kind row.members a p q ≡ pos 0) × (on_load kind row.members p q ≡ pos 0)
    by Out h p t a q = (ap one_if t, refl)
    by Cut h p t a q = (ap (λ (b : Bool). one_if (b && not (is_member row.members q))) t, refl)
    by Flow (inl e) p t a q = absurd (cc)
    by Flow (inr e) p t a q = absurd (cc)
    by Inlet (inl e) p t a q = absurd (cc)
    by Inlet (inr e) p t a q = absurd (cc)
    by Bend (inl e) p t a q = absurd (cc)
    by Bend (inr e) p t a q = absurd (cc)
    by Power (inl e) p t a q = absurd (cc)
    by Power (inr e) p t a q = absurd (cc)
    by One (inl e) p t a q = absurd (cc)
    by One (inr e) p t a q = absurd (cc)

-- rows on arcs
pub members_further : (arcs : List Arc) (row : Row) → row.kind ≡ One → AllPairs (λ m n. m < n) row.members → length row.members ≤ 256 → AreFurther arcs row row.members
members_further arcs row k h few = record {
  ascending = h;
  few = omega (arith, few);
  apart = λ a t. absurd (never (starts_in (start_points row.kind row.members) (slice_get arcs a)) t (ap (λ (x : RowKind). starts_in (start_points x row.members) (slice_get arcs a)) k ∙ no_start (slice_get arcs a)));
  others = λ a arc e t u. by row.kind k a arc.from arc.to u;
}
  where
    no_start : (o : Option Arc) → starts_in [] o ≡ false
    no_start None = refl
    no_start (Some arc) = refl

    by : (kind : RowKind) → kind ≡ One → (a p q : ℕ) → is_member row.members a ≡ false → (on_use kind row.members a p q ≡ pos 0) × (on_load kind row.members p q ≡ pos 0)
    by One h a p q u = (ap (λ (b : Bool). neg_ℤ (one_if b)) u, refl)
    by Out h a p q u = absurd (cc)
    by Flow h a p q u = absurd (cc)
    by Inlet h a p q u = absurd (cc)
    by Bend h a p q u = absurd (cc)
    by Power h a p q u = absurd (cc)
    by Cut h a p q u = absurd (cc)

-- a kind that counts arcs by their ends, among others
abbrev pub CountsEnds : RowKind → Type 0
CountsEnds kind = (kind ≡ Flow) ⊎ ((kind ≡ Inlet) ⊎ ((kind ≡ Bend) ⊎ (kind ≡ Power)))

-- a kind that counts arcs by their starts, among others
abbrev pub CountsStarts : RowKind → Type 0
CountsStarts kind = (kind ≡ Out) ⊎ ((kind ≡ Flow) ⊎ ((kind ≡ Bend) ⊎ (kind ≡ Cut)))

pub start_members : (kind : RowKind) (members : List ℕ) → CountsStarts kind → members ≡ start_points kind members
start_members Out members h = refl
start_members Flow members h = refl
start_members Bend members h = refl
start_members Cut members h = refl
start_members Inlet members h = absurd (bad h)
  where
    bad : CountsStarts Inlet → ⊥
    bad (inl e) = cc
    bad (inr (inl e)) = cc
    bad (inr (inr (inl e))) = cc
    bad (inr (inr (inr e))) = cc
start_members Power members h = absurd (bad h)
  where
    bad : CountsStarts Power → ⊥
    bad (inl e) = cc
    bad (inr (inl e)) = cc
    bad (inr (inr (inl e))) = cc
    bad (inr (inr (inr e))) = cc
start_members One members h = absurd (bad h)
  where
    bad : CountsStarts One → ⊥
    bad (inl e) = cc
    bad (inr (inl e)) = cc
    bad (inr (inr (inl e))) = cc
    bad (inr (inr (inr e))) = cc

-- a row of a kind that counts ends has one member
pub one_end : (kind : RowKind) → CountsEnds kind → IsTrue (has_one_member kind)
one_end Flow h = refl
one_end Inlet h = refl
one_end Bend h = refl
one_end Power h = refl
one_end Out h = refl
one_end One h = absurd (bad h)
  where
    bad : CountsEnds One → ⊥
    bad (inl e) = cc
    bad (inr (inl e)) = cc
    bad (inr (inr (inl e))) = cc
    bad (inr (inr (inr e))) = cc
one_end Cut h = absurd (bad h)
  where
    bad : CountsEnds Cut → ⊥
    bad (inl e) = cc
    bad (inr (inl e)) = cc
    bad (inr (inr (inl e))) = cc
    bad (inr (inr (inr e))) = cc

-- rows by the ends of arcs, of one point
pub into_further : (s : Site) (arcs : List Arc) (row : Row) (p : ℕ) (numbers : List ℕ) → AreArcs s arcs → row.members ≡ p ∷ [] → AreNumbersInto arcs p numbers → length arcs ≤ 65280
    → CountsEnds row.kind → AreFurther arcs row numbers
into_further s arcs row p numbers are one into few k = record {
  ascending = into.ascending;
  few = let l = few_below numbers (length arcs) into.ascending into.below in omega (arith, l, few);
  apart = λ a t. false_from (is_member numbers a) (λ u. from_and_to a (starts_tells (start_points row.kind row.members) (slice_get arcs a) t) u);
  others = λ a arc e t u.
      by row.kind k arc.from arc.to (ends arc.to (into_from arcs p numbers a arc into e u)) (not_started (start_points row.kind row.members) arcs a arc e t) a;
}
  where
    within : (kind : RowKind) (x : ℕ) → is_member (start_points kind row.members) x ≡ true → is_member row.members x ≡ true
    within Out x t = t
    within Flow x t = t
    within Bend x t = t
    within Cut x t = t
    within Inlet x t = absurd (cc)
    within Power x t = absurd (cc)
    within One x t = absurd (cc)

    from_and_to : (a : ℕ) → (arc : Arc) × (slice_get arcs a ≡ Some arc) × (is_member (start_points row.kind row.members) arc.from ≡ true) → is_member numbers a ≡ true → ⊥
    from_and_to a (arc, e, t) u =
        let from : arc.from ≡ p = single p arc.from (subst (λ (ms : List ℕ). is_member ms arc.from ≡ true) one (within row.kind arc.from t)) in
        let to = into_tells arcs p numbers a arc into e u in
        let c = all-at (λ (x : Arc). IsCandidate s x.from x.to) arcs a arc are.candidates e in
        c.different (from ∙ sym to)

    ends : (q : ℕ) → q ≢ p → is_member row.members q ≡ false
    ends q n = subst (λ (ms : List ℕ). is_member ms q ≡ false) (sym one) (or_false (p == q) ∙ other_test p q (λ e. n (sym e)))

    by : (kind : RowKind) → CountsEnds kind → (x y : ℕ) → is_member row.members y ≡ false → is_member (start_points kind row.members) x ≡ false → (a : ℕ)
        → (on_use kind row.members a x y ≡ pos 0) × (on_load kind row.members x y ≡ pos 0)
    by Flow h x y u t a = (refl, λ i. one_if (t i) -ℤ one_if (u i))
    by Inlet h x y u t a = (ap (λ (b : Bool). neg_ℤ (one_if b)) u, refl)
    by Bend h x y u t a = (λ i. one_if (t i) -ℤ one_if (u i), refl)
    by Power h x y u t a = (refl, ap (λ (b : Bool). neg_ℤ (one_if b)) u)
    by Out h x y u t a = absurd (bad h)
      where
        bad : CountsEnds Out → ⊥
        bad (inl e) = cc
        bad (inr (inl e)) = cc
        bad (inr (inr (inl e))) = cc
        bad (inr (inr (inr e))) = cc
    by One h x y u t a = absurd (bad h)
      where
        bad : CountsEnds One → ⊥
        bad (inl e) = cc
        bad (inr (inl e)) = cc
        bad (inr (inr (inl e))) = cc
        bad (inr (inr (inr e))) = cc
    by Cut h x y u t a = absurd (bad h)
      where
        bad : CountsEnds Cut → ⊥
        bad (inl e) = cc
        bad (inr (inl e)) = cc
        bad (inr (inr (inl e))) = cc
        bad (inr (inr (inr e))) = cc

-- no arc starts in none
pub no_starts : (o : Option Arc) → starts_in [] o ≡ false
no_starts None = refl
no_starts (Some arc) = refl

-- ---- sums as the loops make them
-- an extreme at an arc with this mark
extreme_here : (R : ℤ → ℤ → Type 0) (s : Site) (arcs : List Arc) (marks : List Mark) (f : ℕ → Arc → Choice → ℤ) (n : ℕ) (z : ℤ) (own : Mark) → slice_get marks n ≡ Some own
    → ((arc : Arc) → slice_get arcs n ≡ Some arc → IsExtreme R s arc own (f n arc) z) → IsExtremeAt R s arcs marks f n z
extreme_here R s arcs marks f n z own e h arc mark g k =
    let same : own ≡ mark = (let q : Some own ≡ Some mark = sym e ∙ k in cc) in
    subst (λ (m : Mark). IsExtreme R s arc m (f n arc) z) same (h arc g)

-- one arc out of p more
pub one_out_more : (R : ℤ → ℤ → Type 0) (s : Site) (arcs : List Arc) (marks : List Mark) (f : ℕ → Arc → Choice → ℤ) (p first past n : ℕ) (sum z total : ℤ) (own : Mark) → IsFirstFrom arcs p first → IsFirstFrom arcs (p + 1) past → first ≤ n → n < past
    → slice_get marks n ≡ Some own → ((arc : Arc) → slice_get arcs n ≡ Some arc → IsExtreme R s arc own (f n arc) z) → IsSumAt R s arcs marks f (starts_below arcs (p ∷ []) n) sum → total ≡ sum +ℤ z
    → IsSumAt R s arcs marks f (starts_below arcs (p ∷ []) (n + 1)) total
one_out_more R s arcs marks f p first past n sum z total own h k l m e x y t =
    let most = k.within in
    let within : n < length arcs = omega (arith, m, most) in
    let arc = some_at arcs n within in
    let one = sum_one R s arcs marks f n z within (extreme_here R s arcs marks f n z own e x) in
    let joined = sum_join R s arcs marks f (starts_below arcs (p ∷ []) n) (λ a. a == n) sum z y one (λ a l t. outs_apart arcs p n a t) in
    subst (λ (v : ℤ). IsSumAt R s arcs marks f (starts_below arcs (p ∷ []) (n + 1)) v) (sym t)
    (sum_alike R s arcs marks f (λ a. starts_below arcs (p ∷ []) n a || (a == n)) (starts_below arcs (p ∷ []) (n + 1)) (sum +ℤ z) joined (outs_more arcs p first past n arc.0 h k l m arc.1))

-- the arcs out of one point more
pub one_point_more : (R : ℤ → ℤ → Type 0) (s : Site) (arcs : List Arc) (marks : List Mark) (f : ℕ → Arc → Choice → ℤ) (points : List ℕ) (i : ℕ) (sum z total : ℤ) → AllPairs (λ m n. m < n) points → i < length points
    → IsSumAt R s arcs marks f (λ a. starts_in (take i points) (slice_get arcs a)) sum → IsSumAt R s arcs marks f (λ a. starts_in (get_or points i 0 ∷ []) (slice_get arcs a)) z → total ≡ sum +ℤ z
    → IsSumAt R s arcs marks f (λ a. starts_in (take (i + 1) points) (slice_get arcs a)) total
one_point_more R s arcs marks f points i sum z total h l x y t =
    let joined = sum_join R s arcs marks f (λ a. starts_in (take i points) (slice_get arcs a)) (λ a. starts_in (get_or points i 0 ∷ []) (slice_get arcs a)) sum z x y (λ a k u. starts_apart points i h l (slice_get arcs a) u) in
    subst (λ (v : ℤ). IsSumAt R s arcs marks f (λ a. starts_in (take (i + 1) points) (slice_get arcs a)) v) (sym t)
    (sum_alike R s arcs marks f (λ a. starts_in (take i points) (slice_get arcs a) || starts_in (get_or points i 0 ∷ []) (slice_get arcs a)) (λ a. starts_in (take (i + 1) points) (slice_get arcs a)) (sum +ℤ z) joined
    (λ a k. starts_more points i l (slice_get arcs a)))

-- the arc of one number more
pub one_number_more : (R : ℤ → ℤ → Type 0) (s : Site) (arcs : List Arc) (marks : List Mark) (f : ℕ → Arc → Choice → ℤ) (numbers : List ℕ) (i : ℕ) (sum z total : ℤ) (own : Mark) → AllPairs (λ m n. m < n) numbers → i < length numbers
    → get_or numbers i 0 < length arcs → slice_get marks (get_or numbers i 0) ≡ Some own → ((arc : Arc) → slice_get arcs (get_or numbers i 0) ≡ Some arc → IsExtreme R s arc own (f (get_or numbers i 0) arc) z)
    → IsSumAt R s arcs marks f (λ a. is_member (take i numbers) a) sum → total ≡ sum +ℤ z → IsSumAt R s arcs marks f (λ a. is_member (take (i + 1) numbers) a) total
one_number_more R s arcs marks f numbers i sum z total own h l within e x y t =
    let n = get_or numbers i 0 in
    let one = sum_one R s arcs marks f n z within (extreme_here R s arcs marks f n z own e x) in
    let joined = sum_join R s arcs marks f (λ a. is_member (take i numbers) a) (λ a. a == n) sum z y one (λ a k u. among_apart numbers i h l a u) in
    subst (λ (v : ℤ). IsSumAt R s arcs marks f (λ a. is_member (take (i + 1) numbers) a) v) (sym t)
    (sum_alike R s arcs marks f (λ a. is_member (take i numbers) a || (a == n)) (λ a. is_member (take (i + 1) numbers) a) (sum +ℤ z) joined (λ a k. among_more numbers i l a))

-- a number past the arcs more
pub one_number_past : (R : ℤ → ℤ → Type 0) (s : Site) (arcs : List Arc) (marks : List Mark) (f : ℕ → Arc → Choice → ℤ) (numbers : List ℕ) (i : ℕ) (sum : ℤ) → i < length numbers → length arcs ≤ get_or numbers i 0
    → IsSumAt R s arcs marks f (λ a. is_member (take i numbers) a) sum → IsSumAt R s arcs marks f (λ a. is_member (take (i + 1) numbers) a) sum
one_number_past R s arcs marks f numbers i sum l past x = sum_alike R s arcs marks f (λ a. is_member (take i numbers) a) (λ a. is_member (take (i + 1) numbers) a) sum x (λ a k. among_skip numbers i (length arcs) l past a k)

-- a row's sum over its own arcs is that over all
pub own_whole : (R : ℤ → ℤ → Type 0) → ((x : ℤ) → R x x) → (s : Site) (arcs : List Arc) (marks : List Mark) (row : Row) (points numbers : List ℕ) (x y total : ℤ) → IsValid s → AreArcs s arcs → length marks ≡ length arcs
    → points ≡ start_points row.kind row.members → AreFurther arcs row numbers → IsSumAt R s arcs marks (counted row) (λ a. starts_in points (slice_get arcs a)) x → IsSumAt R s arcs marks (counted row) (λ a. is_member numbers a) y
    → total ≡ x +ℤ y → IsSumOfExtremes R s arcs marks (counted row) total
own_whole R same s arcs marks row points numbers x y total v are count e further p q t =
    let joined = sum_join R s arcs marks (counted row) (λ a. starts_in points (slice_get arcs a)) (λ a. is_member numbers a) x y p q
    (λ a l u. further.apart a (subst (λ (ps : List ℕ). starts_in ps (slice_get arcs a) ≡ true) e u)) in
    subst (IsSumOfExtremes R s arcs marks (counted row)) (sym t)
    (sum_whole R s arcs marks (counted row) (λ a. starts_in points (slice_get arcs a) || is_member numbers a) (x +ℤ y) count joined (λ a l u. others a u))
  where
    neither : (b c : Bool) → (b || c) ≡ false → (b ≡ false) × (c ≡ false)
    neither true c u = absurd (cc)
    neither false c u = (refl, u)

    others : (a : ℕ) → (starts_in points (slice_get arcs a) || is_member numbers a) ≡ false → IsExtremeAt R s arcs marks (counted row) a (pos 0)
    others a u =
        let n = neither (starts_in points (slice_get arcs a)) (is_member numbers a) u in
        nothing_at R same s arcs marks row a v are (λ arc g. further.others a arc g (subst (λ (ps : List ℕ). starts_in ps (slice_get arcs a) ≡ false) e n.0) n.1)

-- ---- how large they are
pub within_more : (m n : ℕ) (z : ℤ) → m ≤ n → IsUpTo m z → IsUpTo n z
within_more m n z l h = let a = h.below in let b = h.above in record { below = omega (arith, ints, a, l); above = omega (arith, ints, b, l) }

pub within_sum : (m n k : ℕ) (x y total : ℤ) → IsUpTo m x → IsUpTo n y → m + n ≤ k → total ≡ x +ℤ y → IsUpTo k total
within_sum m n k x y total h g l t =
    let a = h.below in
    let b = h.above in
    let c = g.below in
    let d = g.above in
    record { below = omega (arith, ints, a, c, l, t); above = omega (arith, ints, b, d, l, t) }

pub within_nothing : (n : ℕ) (z : ℤ) → z ≡ pos 0 → IsUpTo n z
within_nothing n z e = record { below = omega (arith, ints, e); above = omega (arith, ints, e) }
