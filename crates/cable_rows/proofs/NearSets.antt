-- Weights on sets that may count an arc.
use Rattle.std.proofs.Common.{◌≡◌, ℕ, ◌<◌, ◌≤◌, inl, inr, ℤ, pos, neg_ℤ, ◌+ℤ◌, ◌*ℤ◌, cond, Bool, true, false, List, [], ◌∷◌, length, slice_get, Option, Some, None, refl, ap, sym, ◌∙◌, subst, arith}
use Rattle.std.specs.Prelude.{◌&&◌, not, nat_lt, ◌==◌}
use Rattle.std.specs.List.{list_any}
use Rattle.std.proofs.lemmas.Bool.{le-ltb, lt-ltb, cases_lt, eqb-true}
use Rattle.std.proofs.lemmas.Int.{ints}
use Rattle.cable_definitions.specs.declared.cable.Arc.{Arc}
use Rattle.cable_definitions.specs.declared.row.RowKind.{RowKind}
use Rattle.cable_definitions.specs.declared.row.RowKind.TheVariants.{Out, Flow, Inlet, Bend, Power, One, Cut}
use Rattle.cable_definitions.specs.Row.{Row, is_member, one_if, on_use, on_load}
use Rattle.cable_definitions.specs.Choice.{AreLawful, at_row, sum_weighted}
use Rattle.number_laws.proofs.Ring.{var, nat, times, same_value}
use Rattle.number_laws.proofs.Sums.{sum_int-cons}
use Rattle.proof_laws.proofs.Lists.{list_any-place, list_any-at, true_or_false, false_from}
use Rattle.cable_rows.specs.declared.sums.PointSums.{PointSums}
use Rattle.cable_rows.specs.Sums.{is_set_kind, row_is, weights_on, sets_of, ArePointSums, AreSummed, is_between, may_count, AreNear}
use Rattle.cable_rows.proofs.Counting.{some_lawful}

-- a weighted sum without weights on rows that count nothing
pub sum_kept : (f : Row → ℤ) (keep : Row → Bool) (rows : List Row) (ws : List (ℕ × ℤ)) → ((row : Row) → keep row ≡ false → f row ≡ pos 0) → sum_weighted f rows (weights_on keep rows ws) ≡ sum_weighted f rows ws
sum_kept f keep rows [] none = refl
sum_kept f keep rows (w ∷ ws) none =
    let k = sum_kept f keep rows ws none in
    let p = sum_int-cons (λ (v : ℕ × ℤ). v.1 *ℤ at_row f (slice_get rows v.0)) w ws in
    elim (true_or_false (row_is keep (slice_get rows w.0))) [
      | inl t ↦
          let x : sum_weighted f rows (weights_on keep rows (w ∷ ws)) ≡ w.1 *ℤ at_row f (slice_get rows w.0) +ℤ sum_weighted f rows (weights_on keep rows ws) =
          ap (sum_weighted f rows) (kept w (weights_on keep rows ws) (row_is keep (slice_get rows w.0)) t) ∙ sum_int-cons (λ (v : ℕ × ℤ). v.1 *ℤ at_row f (slice_get rows v.0)) w (weights_on keep rows ws) in
          omega (arith, ints, k, p, x)
      | inr t ↦
          let x : sum_weighted f rows (weights_on keep rows (w ∷ ws)) ≡ sum_weighted f rows (weights_on keep rows ws) = ap (sum_weighted f rows) (left_out w (weights_on keep rows ws) (row_is keep (slice_get rows w.0)) t) in
          let y = ap (λ (z : ℤ). w.1 *ℤ z) (zero_at (slice_get rows w.0) t) ∙ nothing w.1 in
          omega (arith, ints, k, p, x, y)
    ]
  where
    kept : (v : ℕ × ℤ) (vs : List (ℕ × ℤ)) (b : Bool) → b ≡ true → cond b (v ∷ vs) vs ≡ v ∷ vs
    kept v vs b e = ap (λ (c : Bool). cond c (v ∷ vs) vs) e

    left_out : (v : ℕ × ℤ) (vs : List (ℕ × ℤ)) (b : Bool) → b ≡ false → cond b (v ∷ vs) vs ≡ vs
    left_out v vs b e = ap (λ (c : Bool). cond c (v ∷ vs) vs) e

    nothing : (z : ℤ) → z *ℤ pos 0 ≡ pos 0
    nothing z = same_value (times (var z) (nat 0)) (nat 0) (omega arith)

    zero_at : (o : Option Row) → row_is keep o ≡ false → at_row f o ≡ pos 0
    zero_at None e = refl
    zero_at (Some row) e = none row e

-- a number from first up to past is between them
between : (first past a : ℕ) → first ≤ a → a < past → is_between first past a ≡ true
between first past a l h = ap (λ (b : Bool). cond b false (nat_lt a past)) (le-ltb a first l) ∙ lt-ltb a past h

-- a number between is no member where no member is
not_member : (members : List ℕ) (first past a : ℕ) → first ≤ a → a < past → list_any (λ m. is_between first past m) members ≡ false → is_member members a ≡ false
not_member members first past a l h e = false_from (is_member members a) (λ t. none (list_any-place (λ m. m == a) members t))
  where
    none : (k : ℕ) × (m : ℕ) × (slice_get members k ≡ Some m) × ((m == a) ≡ true) → ⊥
    none (k, m, f, t) =
        let same : a ≡ m = sym (eqb-true m a t) in
        let b : is_between first past m ≡ true = ap (λ (x : ℕ). is_between first past x) (sym same) ∙ between first past a l h in
        let g : true ≡ false = sym (list_any-at (λ m. is_between first past m) members k m f b) ∙ e in
        cc

-- a row on sets that can't count an arc out of p counts none
none_counted : (kind : RowKind) (members : List ℕ) (p first past a q : ℕ) → first ≤ a → a < past → may_count p first past kind members ≡ false → (on_use kind members a p q ≡ pos 0) × (on_load kind members p q ≡ pos 0)
none_counted Out members p first past a q l h e = absurd (cc)
none_counted Flow members p first past a q l h e = absurd (cc)
none_counted Inlet members p first past a q l h e = absurd (cc)
none_counted Bend members p first past a q l h e = absurd (cc)
none_counted Power members p first past a q l h e = absurd (cc)
none_counted One members p first past a q l h e = (ap (λ (b : Bool). neg_ℤ (one_if b)) (not_member members first past a l h e), refl)
none_counted Cut members p first past a q l h e = (ap (λ (b : Bool). one_if (b && not (is_member members q))) e, refl)

-- an arc out of p has a number from that of the first up to that past the last
numbered : (arcs : List Arc) (rows : List Row) (sets near : List (ℕ × ℤ)) (p a : ℕ) (arc : Arc) (n : AreNear arcs rows sets p near) → slice_get arcs a ≡ Some arc → arc.from ≡ p → (n.first ≤ a) × (a < n.past)
numbered arcs rows sets near p a arc n e f = (
  elim (cases_lt a n.first) [ inl l ↦ let k = n.first_is.earlier a arc l e in absurd (omega (arith, k, f)) | inr l ↦ l ],
  elim (cases_lt a n.past) [ inl l ↦ l | inr l ↦ let k = n.past_is.later a arc l e in absurd (omega (arith, k, f)) ],
)

-- the weights on near sets sum to those on all sets, where a row that can't count an arc out of p counts nothing
near_sum : (g : Row → ℤ) (arcs : List Arc) (rows : List Row) (sets near : List (ℕ × ℤ)) (p : ℕ) (n : AreNear arcs rows sets p near) → ((row : Row) → may_count p n.first n.past row.kind row.members ≡ false → g row ≡ pos 0) → sum_weighted g rows near ≡ sum_weighted g rows sets
near_sum g arcs rows sets near p n none = ap (sum_weighted g rows) n.near_are ∙ sum_kept g (λ row. may_count p n.first n.past row.kind row.members) rows sets none

-- the weights on near sets count an arc as those on all sets do
pub near_summed : (arcs : List Arc) (rows : List Row) (ws sets near items : List (ℕ × ℤ)) (sums : PointSums) (a : ℕ) (arc : Arc) → AreLawful rows ws → length ws ≤ 1024 → ArePointSums rows ws sums → sets ≡ sets_of rows ws → AreNear arcs rows sets arc.from near → items ≡ near → slice_get arcs a ≡ Some arc
    → AreSummed rows ws sums items a arc
near_summed arcs rows ws sets near items sums a arc h few t s n e f = record {
  lawful = h;
  few = few;
  sums_are = t;
  use_of_others = same (λ (row : Row). on_use row.kind row.members a arc.from arc.to) (λ row none. (counted row none).0);
  load_of_others = same (λ (row : Row). on_load row.kind row.members arc.from arc.to) (λ row none. (counted row none).1);
}
  where
    same : (g : Row → ℤ) → ((row : Row) → may_count arc.from n.first n.past row.kind row.members ≡ false → g row ≡ pos 0) → sum_weighted g rows items ≡ sum_weighted g rows (sets_of rows ws)
    same g none = ap (sum_weighted g rows) e ∙ near_sum g arcs rows sets near arc.from n none ∙ ap (sum_weighted g rows) s

    counted : (row : Row) → may_count arc.from n.first n.past row.kind row.members ≡ false → (on_use row.kind row.members a arc.from arc.to ≡ pos 0) × (on_load row.kind row.members arc.from arc.to ≡ pos 0)
    counted row none = let within = numbered arcs rows sets near arc.from a arc n f refl in none_counted row.kind row.members arc.from n.first n.past a arc.to within.0 within.1 none

-- the weights on near sets are lawful
pub near_lawful : (arcs : List Arc) (rows : List Row) (ws near items : List (ℕ × ℤ)) (p : ℕ) → AreLawful rows ws → AreNear arcs rows (sets_of rows ws) p near → items ≡ near → AreLawful rows items
near_lawful arcs rows ws near items p h n e = subst (AreLawful rows) (sym (e ∙ n.near_are)) (some_lawful (λ row. may_count p n.first n.past row.kind row.members) rows (sets_of rows ws) (some_lawful (λ row. is_set_kind row.kind) rows ws h))
