-- The rows of sets and their weights, as they are listed one after another.
use Rattle.std.proofs.Common.{◌≡◌, ℕ, zero, suc, ◌+◌, ◌*◌, ◌^◌, ◌<◌, ◌≤◌, Bool, cond, ℤ, pos, ◌≤ℤ◌, unsigned_abs, List, [], ◌∷◌, ◌++◌, length, take, get_or, sum_by, slice_get, Some, All, refl, ap, sym, ◌∙◌, subst, arith, to_z, of_z}
use Rattle.std.specs.Prelude.{Result, Ok, Err, IsOk, IsErr, ◌↔◌}
use Rattle.std.specs.Int.{w128}
use Rattle.std.proofs.lemmas.Int.{ints, to_z-of_z, fits_signed_from_abs}
use Rattle.std.proofs.lemmas.List.{append_assoc, append-nil, length-take-le, length-append, length-map, map-append, take_more}
use Rattle.std.proofs.lemmas.List.Elements.{All-map, All-take}
use Rattle.std.proofs.lemmas.List.Sums.{sum_by-append, sum_by-cons, get_or-le-sum_by}
use Rattle.std.proofs.lemmas.Option.{slice_get_within, slice_get-get_or, get_or_from_slice_get, same_Some}
use Rattle.cable_definitions.specs.declared.cable.Arc.{Arc}
use Rattle.cable_definitions.specs.declared.cable.Cable.{Cable}
use Rattle.cable_definitions.specs.Site.{Site, IsValid}
use Rattle.cable_definitions.specs.Arcs.{IsCandidate, IsCheapest, power_of}
use Rattle.cable_definitions.specs.InTree.{IsInTree}
use Rattle.cable_definitions.specs.Row.{Row, IsWellFormed}
use Rattle.cable_definitions.specs.Choice.{AreLawful}
use Rattle.site_model.specs.Best.{most_cost}
use Rattle.site_model.proofs.Nearest.{cost_small}
use Rattle.layout_laws.proofs.Typing.{all-at}
use Rattle.proof_laws.proofs.Lists.{all_from}
use Rattle.intree_floor.specs.declared.weights.SetWeight.{SetWeight}
use Rattle.intree_floor.specs.Weights.{leaves, IsTurbineSet, AreSetWeights}
use Rattle.intree_floor.proofs.Duality.{left-by}
use Rattle.floor_rows.specs.Listed.{HasRoom, ListsSets, cut_row, set_rows, weights_of, AreSmallSets}
use Rattle.floor_rows.proofs.Sets.{set-count, set-formed}

-- ---- one more set
-- a set without a number, for places past a list
no_set : SetWeight
no_set = record { members = []; weight = 0 }

-- weights of one set more
weights_of-push : (n : ℕ) (sets : List SetWeight) (w : SetWeight) → weights_of n (sets ++ w ∷ []) ≡ weights_of n sets ++ (n + length sets, pos (2 ^ 20 * w.weight)) ∷ []
weights_of-push n [] w = ap (λ (k : ℕ). (k, pos (2 ^ 20 * w.weight)) ∷ []) (let e : n ≡ n + 0 = omega arith in e)
weights_of-push n (v ∷ sets) w =
    ap (λ (ws : List (ℕ × ℤ)). (n, pos (2 ^ 20 * v.weight)) ∷ ws)
    (weights_of-push (n + 1) sets w
    ∙ ap (λ (k : ℕ). weights_of (n + 1) sets ++ (k, pos (2 ^ 20 * w.weight)) ∷ []) (let e : n + 1 + length sets ≡ n + suc (length sets) = omega arith in e))

-- the sets up to one more
set-more : (sets : List SetWeight) (i : ℕ) (w : SetWeight) → slice_get sets i ≡ Some w → take (i + 1) sets ≡ take i sets ++ w ∷ []
set-more sets i w e = take_more sets i no_set (slice_get_within sets i w e) ∙ ap (λ (v : SetWeight). take i sets ++ v ∷ []) (get_or_from_slice_get sets i w no_set e)

-- the row of one set more
pub rows-more : (old : List Row) (sets : List SetWeight) (i : ℕ) (w : SetWeight) → slice_get sets i ≡ Some w
    → (old ++ set_rows (take i sets)) ++ cut_row w.members ∷ [] ≡ old ++ set_rows (take (i + 1) sets)
rows-more old sets i w e =
    append_assoc old (set_rows (take i sets)) (cut_row w.members ∷ [])
    ∙ ap (λ (rows : List Row). old ++ rows)
    (sym (ap set_rows (set-more sets i w e) ∙ map-append (λ (v : SetWeight). cut_row v.members) (take i sets) (w ∷ [])))

-- its number
pub rows-count : (old : List Row) (sets : List SetWeight) → length (old ++ set_rows sets) ≡ length old + length sets
rows-count old sets = length-append old (set_rows sets) ∙ ap (λ (k : ℕ). length old + k) (length-map sets (λ (v : SetWeight). cut_row v.members))

-- its weight
pub weights-more : (n : ℕ) (sets : List SetWeight) (i : ℕ) (w : SetWeight) → slice_get sets i ≡ Some w
    → weights_of n (take i sets) ++ (n + length (take i sets), pos (2 ^ 20 * w.weight)) ∷ [] ≡ weights_of n (take (i + 1) sets)
weights-more n sets i w e = sym (ap (weights_of n) (set-more sets i w e) ∙ weights_of-push n (take i sets) w)

-- as many weights as sets
pub weights-count : (n : ℕ) (sets : List SetWeight) → length (weights_of n sets) ≡ length sets
weights-count n [] = refl
weights-count n (w ∷ sets) = ap suc (weights-count (n + 1) sets)

-- the weight of a set fits where weights are kept
pub weight-kept : (weight : ℕ) (kept : ℤ) → weight ≤ most_cost → kept ≡ pos (2 ^ 20 * weight) → to_z w128 (of_z w128 kept) ≡ pos (2 ^ 20 * weight)
weight-kept weight kept l e = to_z-of_z w128 kept (fits_signed_from_abs w128 kept (subst (λ (z : ℤ). unsigned_abs z < 2 ^ 127) (sym e) (fits weight l))) ∙ e
  where
    fits : (n : ℕ) → n ≤ most_cost → unsigned_abs (pos (2 ^ 20 * n)) < 2 ^ 127
    fits n l = omega (arith, ints)

-- a weight is taken while there are few
pub is-taken : {T E : Type 0} → (r : Result T E) (n : ℕ) → IsErr r ↔ (n ≡ 1024) → n < 1024 → IsOk r
is-taken (Ok x) n full l = refl
is-taken (Err e) n full l = let q = full.0 refl in absurd (omega (arith, q, l))

-- the set at a place
pub item-at : (sets : List SetWeight) (i : ℕ) (w : SetWeight) → i < length sets → w ≡ get_or sets i w → slice_get sets i ≡ Some w
item-at sets i w l e = slice_get-get_or sets i w l ∙ ap (λ (v : SetWeight). Some v) (sym e)

-- the sets up to a place
pub take-count : (sets : List SetWeight) (i : ℕ) → i < length sets → length (take i sets) ≡ i
take-count sets i l = length-take-le i sets (omega (arith, l))

-- ---- how many rows and members there are
-- members of the rows of sets
members-most : (s : Site) (sets : List SetWeight) → IsValid s → All (λ w. IsTurbineSet s w.members) sets → sum_by (λ (r : Row). length r.members) (set_rows sets) ≤ 256 * length sets
members-most s [] valid are = omega arith
members-most s (w ∷ sets) valid are =
    let here = set-count s w.members (are 0 no_set (omega arith)) in
    let most = valid.points_count in
    let rest = members-most s sets valid (λ i d l. are (suc i) d (omega (arith, l))) in
    omega (arith, here, most, rest, sum_by-cons (λ (r : Row). length r.members) (cut_row w.members) (set_rows sets))

-- there is room for each further row
pub rows-room : (s : Site) (old : List Row) (sets : List SetWeight) (i : ℕ) → IsValid s → HasRoom old → AreSmallSets s sets → i ≤ length sets
    → (length (old ++ set_rows (take i sets)) < 16384) × (sum_by (λ (r : Row). length r.members) (old ++ set_rows (take i sets)) ≤ 1048320)
rows-room s old sets i valid room small l =
    let few = small.few in
    let rows = room.rows_count in
    let members = room.members_count in
    let count = rows-count old (take i sets) in
    let length_is = taken sets i in
    let most = members-most s (take i sets) valid (part sets i small.are_sets) in
    let sum = sum_by-append (λ (r : Row). length r.members) old (set_rows (take i sets)) in
    (omega (arith, few, rows, count, length_is, l), omega (arith, few, members, most, sum, length_is, l))
  where
    taken : (xs : List SetWeight) (k : ℕ) → length (take k xs) ≤ length xs
    taken [] zero = omega arith
    taken [] (suc k) = omega arith
    taken (x ∷ xs) zero = omega arith
    taken (x ∷ xs) (suc k) = let r = taken xs k in omega (arith, r)

    part : (xs : List SetWeight) (k : ℕ) → All (λ w. IsTurbineSet s w.members) xs → All (λ w. IsTurbineSet s w.members) (take k xs)
    part xs k are = All-take (λ (w : SetWeight). IsTurbineSet s w.members) k xs are

-- the rows of sets of turbines, as they are listed
pub sets-listed : (s : Site) (arcs : List Arc) (old : List Row) (sets : List SetWeight) → IsValid s → AreSmallSets s sets → ListsSets s arcs old (old ++ set_rows sets)
sets-listed s arcs old sets valid small = record {
  rows = set_rows sets;
  listed = refl;
  well_formed = All-map (IsWellFormed s arcs) (λ (w : SetWeight). cut_row w.members) sets (λ i d l. set-formed s arcs (get_or sets i d).members valid (small.are_sets i d l));
  rows_count = (let few = small.few in let count = length-map sets (λ (w : SetWeight). cut_row w.members) in omega (arith, few, count));
  members_count = (let few = small.few in let most = members-most s sets valid small.are_sets in omega (arith, few, most));
}

-- the row of one set, as it is listed
pub set-listed : (s : Site) (arcs : List Arc) (old : List Row) (members : List ℕ) → IsValid s → IsTurbineSet s members → ListsSets s arcs old (old ++ cut_row members ∷ [])
set-listed s arcs old members valid set = record {
  rows = cut_row members ∷ [];
  listed = refl;
  well_formed = all_from (IsWellFormed s arcs) (cut_row members ∷ []) formed;
  rows_count = omega arith;
  members_count = (
      let few = set-count s members set in
      let most = valid.points_count in
      omega (arith, few, most, sum_by-cons (λ (r : Row). length r.members) (cut_row members) [])
      );
}
  where
    formed : (i : ℕ) (row : Row) → slice_get (cut_row members ∷ []) i ≡ Some row → IsWellFormed s arcs row
    formed zero row e = subst (IsWellFormed s arcs) (same_Some (cut_row members) row e) (set-formed s arcs members valid set)
    formed (suc i) row e = absurd (cc)

-- nothing is listed
pub none-listed : (s : Site) (arcs : List Arc) (old : List Row) → ListsSets s arcs old old
none-listed s arcs old = record {
  rows = [];
  listed = sym (append-nil old);
  well_formed = λ i d l. absurd (omega arith);
  rows_count = omega arith;
  members_count = omega arith;
}

-- ---- the weights are lawful
-- the weight at a place is that of the set there
weight-at : (n : ℕ) (sets : List SetWeight) (i : ℕ) (v : ℕ × ℤ) → slice_get (weights_of n sets) i ≡ Some v
    → (w : SetWeight) × (slice_get sets i ≡ Some w) × (v.0 ≡ n + i) × (v.1 ≡ pos (2 ^ 20 * w.weight))
weight-at n [] i v e = absurd (cc)
weight-at n (w ∷ sets) zero v e =
    let same = same_Some (n, pos (2 ^ 20 * w.weight)) v e in
    (w, refl, sym (ap (λ (x : ℕ × ℤ). x.0) same) ∙ (let q : n ≡ n + 0 = omega arith in q), sym (ap (λ (x : ℕ × ℤ). x.1) same))
weight-at n (w ∷ sets) (suc i) v e =
    let r = weight-at (n + 1) sets i v e in
    (r.0, r.1, r.2 ∙ (let q : n + 1 + i ≡ n + suc i = omega arith in q), r.3)

-- the weights of the rows of such sets are lawful
pub sets-lawful : (s : Site) (old : List Row) (sets : List SetWeight) → AreSmallSets s sets → All (λ w. 1 ≤ w.weight) sets → AreLawful (old ++ set_rows sets) (weights_of (length old) sets)
sets-lawful s old sets small some = record {
  ascending = λ i j d l h.
      let a = at i d (omega (arith, l, h)) in
      let b = at j d h in
      let low = a.2 in
      let high = b.2 in
      omega (arith, low, high, l);
  listed = λ i d l.
      let a = at i d l in
      let place = slice_get_within sets i a.0 a.1 in
      let number = a.2 in
      let count = rows-count old sets in
      omega (arith, place, number, count);
  not_zero = λ i d l e.
      let a = at i d l in
      none a.0.weight (all-at (λ (w : SetWeight). 1 ≤ w.weight) sets i a.0 some a.1) (sym a.3 ∙ e);
  small = λ i d l.
      let a = at i d l in
      subst (λ (z : ℤ). unsigned_abs z ≤ 2 ^ 76) (sym a.3) (little a.0.weight (all-at (λ (w : SetWeight). w.weight ≤ most_cost) sets i a.0 small.small a.1));
  signs = λ i d l row e n. let a = at i d l in subst (λ (z : ℤ). pos 0 ≤ℤ z) (sym a.3) (omega (arith, ints));
}
  where
    at : (i : ℕ) (d : ℕ × ℤ) → i < length (weights_of (length old) sets)
        → (w : SetWeight) × (slice_get sets i ≡ Some w) × ((get_or (weights_of (length old) sets) i d).0 ≡ length old + i) × ((get_or (weights_of (length old) sets) i d).1 ≡ pos (2 ^ 20 * w.weight))
    at i d l = weight-at (length old) sets i (get_or (weights_of (length old) sets) i d) (slice_get-get_or (weights_of (length old) sets) i d l)

    none : (n : ℕ) → 1 ≤ n → pos (2 ^ 20 * n) ≡ pos 0 → ⊥
    none n l e = absurd (omega (arith, ints))

    little : (n : ℕ) → n ≤ most_cost → unsigned_abs (pos (2 ^ 20 * n)) ≤ 2 ^ 76
    little n l = omega (arith, ints)

-- no weights are lawful
pub none-lawful : (rows : List Row) → AreLawful rows []
none-lawful rows = record {
  ascending = λ i j d l h. absurd (omega (arith, h));
  listed = λ i d l. absurd (omega (arith, l));
  not_zero = λ i d l. absurd (omega (arith, l));
  small = λ i d l. absurd (omega (arith, l));
  signs = λ i d l. absurd (omega (arith, l));
}

-- ---- the sets of the floor
-- a set weighs at most what the cable of an in-tree costs that leaves it
pub sets-small : (s : Site) (sets : List SetWeight) (total : ℕ) (tree : List Cable) → IsValid s → AreSetWeights s sets total → IsInTree s tree → length sets ≤ 511 → AreSmallSets s sets
sets-small s sets total tree valid weights t few = record {
  are_sets = weights.are_sets;
  small = λ i d l.
      let w = get_or sets i d in
      let out = left-by s tree w.members t (weights.are_sets i d l) in
      let c = out.1 in
      let cheap = all-at (λ (b : Cable). IsCheapest s b.from b.to (power_of s b.from) b.grade) tree out.0 c t.cheapest out.2 in
      let paid = weights.paid c.from c.to c.grade (all-at (λ (b : Cable). IsCandidate s b.from b.to) tree out.0 c t.candidates out.2) cheap in
      let cost = cost_small s c.from c.to c.grade (power_of s c.from) valid cheap.bears in
      let part = get_or-le-sum_by (λ (v : SetWeight). cond (leaves v.members c.from c.to) v.weight 0) sets i d l in
      let whole : cond (leaves w.members c.from c.to) w.weight 0 ≡ w.weight = ap (λ (b : Bool). cond b w.weight 0) out.3 in
      omega (arith, paid, cost, part, whole);
  few = few;
}
