-- Tables of sums, arc by arc.
use Rattle.std.proofs.Common.{◌≡◌, ◌≢◌, ℕ, ◌+◌, ◌*◌, ◌≤◌, ◌<◌, ◌⊎◌, inl, inr, Bool, true, false, cond, List, Some, slice_get, get_or, length, ap, ap₂, sym, ◌∙◌, arith, replicate, eqb}
use Rattle.std.specs.Prelude.{slice_set, ◌&&◌, ◌==◌}
use Rattle.std.proofs.lemmas.Bool.Decides.{eqb_tells}
use Rattle.std.proofs.lemmas.List.{length-set, get_or-set_same, get_or-set_other, get_or-replicate, length-replicate}
use Rattle.std.proofs.lemmas.Option.{slice_get-get_or, get_or_from_slice_get}
use Rattle.cable_definitions.specs.declared.cable.Arc.{Arc}
use Rattle.row_makers.specs.Sums.{starts_in, goes, JoinsPoints}
use Rattle.row_makers.proofs.Upto.{sum_upto, sum_upto-more}

-- an element that is there is read whatever stands for one that isn't
pub read_there : (xs : List ℕ) (i d e : ℕ) → i < length xs → get_or xs i d ≡ get_or xs i e
read_there xs i d e h = sym (get_or_from_slice_get xs i (get_or xs i d) e (slice_get-get_or xs i d h))

-- for each of 256 points the sum over the first k arcs that start there
pub record AreOutUpto (arcs : List Arc) (shares : List ℕ) (k : ℕ) (sums : List ℕ) : Type 0 where
  pub size : length sums ≡ 256
  pub sums_are : (p : ℕ) → p < 256 → get_or sums p 0 ≡ sum_upto (starts_in p) arcs shares k
  pub small : (p : ℕ) → p < 256 → get_or sums p 0 ≤ k * 1048576

-- nothing was added
pub out_none : (arcs : List Arc) (shares : List ℕ) → AreOutUpto arcs shares 0 (replicate 256 0)
out_none arcs shares = record {
  size = length-replicate {A = ℕ} 256 0;
  sums_are = λ p h. get_or-replicate {A = ℕ} 256 p 0 0 h;
  small = λ p h. omega (arith, get_or-replicate {A = ℕ} 256 p 0 0 h);
}

-- one more arc
pub out_more : (arcs : List Arc) (shares sums : List ℕ) (k : ℕ) (arc : Arc) (u v : ℕ) → AreOutUpto arcs shares k sums → slice_get arcs k ≡ Some arc → slice_get shares k ≡ Some u
    → u ≤ 1048576 → arc.from < 256 → v ≡ get_or sums arc.from 0 + u → AreOutUpto arcs shares (k + 1) (slice_set sums arc.from v)
out_more arcs shares sums k arc u v are e f small below is = record {
  size = length-set sums arc.from v ∙ are.size;
  sums_are = λ p h. sum_at p h (eqb_tells p arc.from);
  small = λ p h. small_at p h (eqb_tells p arc.from);
}
  where
    inside : arc.from < length sums
    inside = omega (arith, below, are.size)

    at_start : get_or (slice_set sums arc.from v) arc.from 0 ≡ get_or sums arc.from 0 + u
    at_start = get_or-set_same sums arc.from v 0 inside ∙ is

    sum_at : (p : ℕ) → p < 256 → ((eqb p arc.from ≡ true) × (p ≡ arc.from)) ⊎ ((eqb p arc.from ≡ false) × (p ≢ arc.from))
        → get_or (slice_set sums arc.from v) p 0 ≡ sum_upto (starts_in p) arcs shares (k + 1)
    sum_at p h (inl (t, same)) =
        let more = sum_upto-more (starts_in p) arcs shares k arc u e f in
        let one = ap (λ (b : Bool). cond b u 0) t in
        let there = ap (λ (q : ℕ). get_or (slice_set sums arc.from v) q 0) same in
        let before = ap (λ (q : ℕ). get_or sums q 0) same in
        omega (arith, more, one, there, before, at_start, are.sums_are p h)
    sum_at p h (inr (t, other)) =
        let more = sum_upto-more (starts_in p) arcs shares k arc u e f in
        let none = ap (λ (b : Bool). cond b u 0) t in
        omega (arith, more, none, get_or-set_other sums arc.from p v 0 other, are.sums_are p h)

    small_at : (p : ℕ) → p < 256 → ((eqb p arc.from ≡ true) × (p ≡ arc.from)) ⊎ ((eqb p arc.from ≡ false) × (p ≢ arc.from))
        → get_or (slice_set sums arc.from v) p 0 ≤ (k + 1) * 1048576
    small_at p h (inl (t, same)) =
        let there = ap (λ (q : ℕ). get_or (slice_set sums arc.from v) q 0) same in
        let before = ap (λ (q : ℕ). get_or sums q 0) same in
        omega (arith, there, before, at_start, are.small p h, small)
    small_at p h (inr (t, other)) = omega (arith, get_or-set_other sums arc.from p v 0 other, are.small p h)

-- for each two of 256 points the sum over those of the first k arcs that go from one to the other
pub record AreBetweenUpto (arcs : List Arc) (shares : List ℕ) (k : ℕ) (sums : List ℕ) : Type 0 where
  pub size : length sums ≡ 65536
  pub sums_are : (p q : ℕ) → p < 256 → q < 256 → get_or sums (256 * p + q) 0 ≡ sum_upto (goes p q) arcs shares k
  pub small : (i : ℕ) → get_or sums i 0 ≤ k * 1048576

-- nothing was added
pub between_none : (arcs : List Arc) (shares sums : List ℕ) → length sums ≡ 65536 → ((i : ℕ) → get_or sums i 0 ≡ 0) → AreBetweenUpto arcs shares 0 sums
between_none arcs shares sums size zeros = record {
  size = size;
  sums_are = λ p q h k. zeros (256 * p + q);
  small = λ i. omega (arith, zeros i);
}

-- one more arc
pub between_more : (arcs : List Arc) (shares sums : List ℕ) (k : ℕ) (arc : Arc) (u place v : ℕ) → AreBetweenUpto arcs shares k sums → slice_get arcs k ≡ Some arc → slice_get shares k ≡ Some u
    → u ≤ 1048576 → JoinsPoints arc → place ≡ 256 * arc.from + arc.to → v ≡ get_or sums place 0 + u → AreBetweenUpto arcs shares (k + 1) (slice_set sums place v)
between_more arcs shares sums k arc u place v are e f small joins at is = record {
  size = length-set sums place v ∙ are.size;
  sums_are = λ p q h l. sum_at p q h l (eqb_tells p arc.from) (eqb_tells q arc.to);
  small = λ i. small_at i (eqb_tells i place);
}
  where
    inside : place < length sums
    inside = omega (arith, at, joins.from, joins.to, are.size)

    there : get_or (slice_set sums place v) place 0 ≡ get_or sums place 0 + u
    there = get_or-set_same sums place v 0 inside ∙ is

    elsewhere : (p q : ℕ) → 256 * p + q ≢ place → p < 256 → q < 256 → ((p == arc.from) && (q == arc.to)) ≡ false → get_or (slice_set sums place v) (256 * p + q) 0 ≡ sum_upto (goes p q) arcs shares (k + 1)
    elsewhere p q other h l t =
        let more = sum_upto-more (goes p q) arcs shares k arc u e f in
        let none = ap (λ (b : Bool). cond b u 0) t in
        omega (arith, more, none, get_or-set_other sums place (256 * p + q) v 0 other, are.sums_are p q h l)

    sum_at : (p q : ℕ) → p < 256 → q < 256 → ((eqb p arc.from ≡ true) × (p ≡ arc.from)) ⊎ ((eqb p arc.from ≡ false) × (p ≢ arc.from))
        → ((eqb q arc.to ≡ true) × (q ≡ arc.to)) ⊎ ((eqb q arc.to ≡ false) × (q ≢ arc.to)) → get_or (slice_set sums place v) (256 * p + q) 0 ≡ sum_upto (goes p q) arcs shares (k + 1)
    sum_at p q h l (inl (t, same)) (inl (r, alike)) =
        let more = sum_upto-more (goes p q) arcs shares k arc u e f in
        let one = ap₂ (λ (b c : Bool). cond (b && c) u 0) t r in
        let here : 256 * p + q ≡ place = omega (arith, same, alike, at) in
        let now = ap (λ (i : ℕ). get_or (slice_set sums place v) i 0) here in
        let before = ap (λ (i : ℕ). get_or sums i 0) here in
        omega (arith, more, one, now, before, there, are.sums_are p q h l)
    sum_at p q h l (inl (t, same)) (inr (r, other)) = elsewhere p q (λ k. other (omega (arith, k, at, same, joins.to))) h l (ap₂ (λ (b c : Bool). b && c) t r)
    sum_at p q h l (inr (t, other)) (inl (r, alike)) = elsewhere p q (λ k. other (omega (arith, k, at, alike))) h l (ap₂ (λ (b c : Bool). b && c) t r)
    sum_at p q h l (inr (t, other)) (inr (r, another)) = elsewhere p q (λ k. other (omega (arith, k, at, l, joins.to))) h l (ap₂ (λ (b c : Bool). b && c) t r)

    small_at : (i : ℕ) → ((eqb i place ≡ true) × (i ≡ place)) ⊎ ((eqb i place ≡ false) × (i ≢ place)) → get_or (slice_set sums place v) i 0 ≤ (k + 1) * 1048576
    small_at i (inl (t, same)) =
        let now = ap (λ (j : ℕ). get_or (slice_set sums place v) j 0) same in
        let before = ap (λ (j : ℕ). get_or sums j 0) same in
        omega (arith, now, before, there, are.small i, small)
    small_at i (inr (t, other)) = omega (arith, get_or-set_other sums place i v 0 other, are.small i)
