-- The weights of turbines, row by row.
use Rattle.std.proofs.Common.{◌≡◌, ◌≢◌, ℕ, ◌+◌, ◌*◌, ◌^◌, ◌<◌, ◌≤◌, inl, inr, ℤ, pos, ◌≤ℤ◌, Bool, true, false, cond, List, [], ◌∷◌, ◌++◌, length, get_or, set, slice_get, slice_index_or, Option, Some, None, count_by, below_more, to_z, of_z, refl, ap, sym, ◌∙◌, subst, arith}
use Rattle.std.specs.Prelude.{All, Any, replicate, unsigned_abs}
use Rattle.std.specs.Int.{w128}
use Rattle.std.proofs.Math.ListN.{get_or-append}
use Rattle.std.proofs.lemmas.Bool.{cases_lt}
use Rattle.std.proofs.lemmas.Bool.Decides.{eqb_tells}
use Rattle.std.proofs.lemmas.Int.{ints, to_z-of_z, fits_signed_from_abs}
use Rattle.std.proofs.lemmas.List.{get_or-set_same, get_or-set_other, length-set, length_push, length-replicate}
use Rattle.std.proofs.lemmas.List.Elements.{All-push}
use Rattle.std.proofs.lemmas.List.Quantifiers.{Any-push, all_pairs_push}
use Rattle.std.proofs.lemmas.List.Sums.{sum_by-set, count_by-le-length}
use Rattle.std.proofs.lemmas.Option.{slice_get_within}
use Rattle.cable_definitions.specs.declared.cable.Arc.{Arc}
use Rattle.cable_definitions.specs.declared.row.Mark.{Mark}
use Rattle.cable_definitions.specs.declared.row.RowKind.{RowKind}
use Rattle.cable_definitions.specs.declared.row.RowKind.TheVariants.{Out}
use Rattle.cable_definitions.specs.Site.{Site, IsValid}
use Rattle.cable_definitions.specs.Arcs.{power_of}
use Rattle.cable_definitions.specs.Choice.{AreLawful}
use Rattle.cable_definitions.specs.Row.{Row, IsWellFormed}
use Rattle.layout_laws.proofs.Typing.{all-at}
use Rattle.proof_laws.proofs.NearestValue.{out-row}
use Rattle.site_model.specs.Best.{most_cost}
use Rattle.site_model.proofs.Nearest.{cost_small}
use Rattle.cable_rows.proofs.Wellformed.{no_members}
use Rattle.turbine_weights.specs.Turbines.{out_row, IsLeastLeft, IsFirstRow, IsTurbineWeight, AreTurbineWeights}
use Rattle.turbine_weights.specs.Weighing.{AreWeighed}
use Rattle.turbine_weights.proofs.LeastLeft.{some_at}

-- a listed row on the cables out of a turbine, whose members were read
pub record IsListedTurbine (s : Site) (rows : List Row) (n : ℕ) (members : List ℕ) : Type 0 where
  pub members_are : members ≡ slice_index_or members 0 0 ∷ []
  pub listed : slice_get rows n ≡ Some (out_row (slice_index_or members 0 0))
  pub within : slice_index_or members 0 0 < length s.points

-- a row of this kind is such a row
pub listed_turbine : (s : Site) (arcs : List Arc) (rows : List Row) (n : ℕ) (kind : RowKind) (members : List ℕ) → All (IsWellFormed s arcs) rows → n < length rows
    → ((r : Row) → slice_get rows n ≡ Some r → kind ≡ r.kind) → kind ≡ Out → ((r : Row) → slice_get rows n ≡ Some r → members ≡ r.members) → IsListedTurbine s rows n members
listed_turbine s arcs rows n kind members formed l k out m =
    let here = some_at rows n l in
    let row = here.0 in
    let e = here.1 in
    let is_out : row.kind ≡ Out = sym (k row e) ∙ out in
    let t = out-row s arcs row is_out (all-at (IsWellFormed s arcs) rows n row formed e) in
    let are : members ≡ t.turbine ∷ [] = m row e ∙ t.members_are in
    let first : slice_index_or members 0 0 ≡ t.turbine = ap (λ (ms : List ℕ). slice_index_or ms 0 0) are in
    let same : row ≡ out_row t.turbine = λ i. record { kind = is_out i; members = t.members_are i } in
    record {
      members_are = are ∙ ap (λ (p : ℕ). p ∷ []) (sym first);
      listed = e ∙ ap (λ (r : Row). Some r) same ∙ ap (λ (p : ℕ). Some (out_row p)) (sym first);
      within = subst (λ (p : ℕ). p < length s.points) (sym first) t.within;
    }

-- what a fact of some element says after one more element
any_before : {X : Type 0} → (P : X → Type 0) (xs : List X) (y : X) → Any P xs → Any P (xs ++ y ∷ [])
any_before P xs y a = (a.0, a.1, omega (arith, length_push xs y, a.2), get_or-append xs (y ∷ []) a.1 a.0 a.2 ∙ a.3, a.4)

-- the turbine of a row
abbrev point_of : Option Row → ℕ
point_of None = 0
point_of (Some row) = slice_index_or row.members 0 0

-- a row is that of one turbine
pub same_turbine : (rows : List Row) (n p q : ℕ) → slice_get rows n ≡ Some (out_row p) → slice_get rows n ≡ Some (out_row q) → p ≡ q
same_turbine rows n p q e f = ap point_of (sym e ∙ f)

-- before the first row
pub weighed_none : (s : Site) (arcs : List Arc) (rows : List Row) (marks : List Mark) → AreWeighed s arcs rows marks 0 (replicate 256 false) []
weighed_none s arcs rows marks = record {
  size = length-replicate 256 false;
  count = omega arith;
  told = λ p t. let q : false ≡ true = sym (no_members 256 p) ∙ t in absurd (cc);
  not_told = λ p f i l. absurd (omega arith);
  ascending = λ i j d l k. absurd (omega arith);
  below = λ k d l. absurd (omega arith);
  are_weights = λ k d l. absurd (omega arith);
  each = λ p r cost l. absurd (omega arith);
}

-- a row that isn't the first of a turbine changes nothing
pub weighed_same : (s : Site) (arcs : List Arc) (rows : List Row) (marks : List Mark) (n : ℕ) (weighed : List Bool) (weights : List (ℕ × ℤ))
    → ((p : ℕ) → slice_get rows n ≡ Some (out_row p) → get_or weighed p false ≡ true) → AreWeighed s arcs rows marks n weighed weights → AreWeighed s arcs rows marks (n + 1) weighed weights
weighed_same s arcs rows marks n weighed weights h b = record {
  size = b.size;
  count = b.count;
  told = λ p t. let r = b.told p t in (r.0, omega (arith, r.1), r.2);
  not_told = λ p f. below_more (λ (i : ℕ). slice_get rows i ≢ Some (out_row p)) n (b.not_told p f) (λ e. let q : true ≡ false = sym (h p e) ∙ f in absurd (cc));
  ascending = b.ascending;
  below = λ k d l. omega (arith, b.below k d l);
  are_weights = b.are_weights;
  each = λ p r cost l first least some. below_more (λ (i : ℕ). IsFirstRow rows p i → Any (λ w. w.0 ≡ i) weights) n (λ i k first. b.each p i cost k first least some)
      (λ first. let t = b.told p (h p first.listed) in absurd (omega (arith, t.1, first.first t.0 t.2))) r l first;
}

-- the row of a turbine that isn't told yet is its first
first_row : (s : Site) (arcs : List Arc) (rows : List Row) (marks : List Mark) (n p : ℕ) (weighed : List Bool) (weights : List (ℕ × ℤ)) → AreWeighed s arcs rows marks n weighed weights
    → slice_get rows n ≡ Some (out_row p) → get_or weighed p false ≡ false → IsFirstRow rows p n
first_row s arcs rows marks n p weighed weights b e f = record {
  listed = e;
  first = λ i at. elim (cases_lt i n) [
    | inl l ↦ absurd (b.not_told p f i l at)
    | inr l ↦ l
  ];
}

-- the table tells the turbine of row n
told_more : (s : Site) (arcs : List Arc) (rows : List Row) (marks : List Mark) (n p : ℕ) (weighed : List Bool) (weights : List (ℕ × ℤ)) → AreWeighed s arcs rows marks n weighed weights
    → slice_get rows n ≡ Some (out_row p) → (q : ℕ) → get_or (set weighed p true) q false ≡ true → (i : ℕ) × (i < n + 1) × (slice_get rows i ≡ Some (out_row q))
told_more s arcs rows marks n p weighed weights b e q t = elim (eqb_tells q p) [
  | inl same ↦ (n, omega arith, e ∙ ap (λ (k : ℕ). Some (out_row k)) (sym same.1))
  | inr other ↦ let r = b.told q (sym (get_or-set_other weighed p q true false other.1) ∙ t) in (r.0, omega (arith, r.1), r.2)
]

-- and no turbine of which no row came
not_told_more : (s : Site) (arcs : List Arc) (rows : List Row) (marks : List Mark) (n p : ℕ) (weighed : List Bool) (weights : List (ℕ × ℤ)) → AreWeighed s arcs rows marks n weighed weights
    → p < 256 → slice_get rows n ≡ Some (out_row p) → (q : ℕ) → get_or (set weighed p true) q false ≡ false → (i : ℕ) → i < n + 1 → slice_get rows i ≢ Some (out_row q)
not_told_more s arcs rows marks n p weighed weights b within e q f = elim (eqb_tells q p) [
  | inl same ↦
      let t : true ≡ false = sym (get_or-set_same weighed p true false (omega (arith, within, b.size))) ∙ ap (λ (k : ℕ). get_or (set weighed p true) k false) (sym same.1) ∙ f in
      absurd (cc)
  | inr other ↦ below_more (λ (i : ℕ). slice_get rows i ≢ Some (out_row q)) n (b.not_told q (sym (get_or-set_other weighed p q true false other.1) ∙ f))
      (λ at. other.1 (same_turbine rows n q p at e))
]

-- the table tells one more
count_more : (weighed : List Bool) (p : ℕ) → p < length weighed → get_or weighed p false ≡ false → count_by (λ told. told) (set weighed p true) ≡ count_by (λ told. told) weighed + 1
count_more weighed p l f =
    let sum = sum_by-set (λ (b : Bool). cond b (let n : ℕ = 1 in n) 0) weighed p true false l in
    let none : cond (get_or weighed p false) (let n : ℕ = 1 in n) 0 ≡ 0 = ap (λ (b : Bool). cond b (let n : ℕ = 1 in n) 0) f in
    omega (arith, sum, none)

-- a turbine without an arc that is left, or with one that costs nothing, is told and gets no weight
pub weighed_nothing : (s : Site) (arcs : List Arc) (rows : List Row) (marks : List Mark) (n p : ℕ) (weighed : List Bool) (weights : List (ℕ × ℤ)) → AreWeighed s arcs rows marks n weighed weights
    → p < 256 → slice_get rows n ≡ Some (out_row p) → get_or weighed p false ≡ false → ((cost : ℕ) → IsLeastLeft s arcs marks p cost → cost ≡ 0)
    → AreWeighed s arcs rows marks (n + 1) (set weighed p true) weights
weighed_nothing s arcs rows marks n p weighed weights b within e f none = record {
  size = length-set weighed p true ∙ b.size;
  count = omega (arith, b.count, count_more weighed p (omega (arith, within, b.size)) f);
  told = told_more s arcs rows marks n p weighed weights b e;
  not_told = not_told_more s arcs rows marks n p weighed weights b within e;
  ascending = b.ascending;
  below = λ k d l. omega (arith, b.below k d l);
  are_weights = b.are_weights;
  each = λ q r cost l first least some. below_more (λ (i : ℕ). IsFirstRow rows q i → Any (λ w. w.0 ≡ i) weights) n (λ i k first. b.each q i cost k first least some)
      (λ first. absurd (some (none cost (subst (λ (k : ℕ). IsLeastLeft s arcs marks k cost) (same_turbine rows n q p first.listed e) least)))) r l first;
}

-- another turbine is told and weighed
pub weighed_more : (s : Site) (arcs : List Arc) (rows : List Row) (marks : List Mark) (n p cost : ℕ) (weighed : List Bool) (weights : List (ℕ × ℤ)) (weight : ℤ)
    → AreWeighed s arcs rows marks n weighed weights → p < 256 → slice_get rows n ≡ Some (out_row p) → get_or weighed p false ≡ false → IsLeastLeft s arcs marks p cost → cost ≢ 0
    → weight ≡ pos (2 ^ 20 * cost) → AreWeighed s arcs rows marks (n + 1) (set weighed p true) (weights ++ (n, weight) ∷ [])
weighed_more s arcs rows marks n p cost weighed weights weight b within e f least some is = record {
  size = length-set weighed p true ∙ b.size;
  count = omega (arith, b.count, count_more weighed p (omega (arith, within, b.size)) f, length_push weights (n, weight));
  told = told_more s arcs rows marks n p weighed weights b e;
  not_told = not_told_more s arcs rows marks n p weighed weights b within e;
  ascending = all_pairs_push (λ (v w : ℕ × ℤ). v.0 < w.0) weights (n, weight) b.ascending b.below;
  below = All-push (λ (w : ℕ × ℤ). w.0 < n + 1) weights (n, weight) (λ k d l. omega (arith, b.below k d l)) (omega arith);
  are_weights = All-push (λ (w : ℕ × ℤ). IsTurbineWeight s arcs rows marks w.0 w.1) weights (n, weight) b.are_weights
      (record { turbine = p; cost = cost; row = first_row s arcs rows marks n p weighed weights b e f; least = least; some = some; value = is });
  each = λ q r c l first least some. below_more (λ (i : ℕ). IsFirstRow rows q i → Any (λ (w : ℕ × ℤ). w.0 ≡ i) (weights ++ (n, weight) ∷ [])) n
      (λ i k first. any_before (λ (w : ℕ × ℤ). w.0 ≡ i) weights (n, weight) (b.each q i c k first least some))
      (λ first. Any-push (λ (w : ℕ × ℤ). w.0 ≡ n) weights (n, weight) refl) r l first;
}

-- the weight of a cost fits where weights are kept
pub weight-kept : (cost : ℕ) (weight : ℤ) → cost ≤ most_cost → weight ≡ pos (2 ^ 20 * cost) → to_z w128 (of_z w128 weight) ≡ pos (2 ^ 20 * cost)
weight-kept cost weight l e = to_z-of_z w128 weight (fits_signed_from_abs w128 weight (subst (λ (z : ℤ). unsigned_abs z < 2 ^ 127) (sym e) (fits cost l))) ∙ e
  where
    fits : (n : ℕ) → n ≤ most_cost → unsigned_abs (pos (2 ^ 20 * n)) < 2 ^ 127
    fits n l = omega (arith, ints)

-- there are at most 256 weights
pub weighed_few : (s : Site) (arcs : List Arc) (rows : List Row) (marks : List Mark) (n : ℕ) (weighed : List Bool) (weights : List (ℕ × ℤ)) → AreWeighed s arcs rows marks n weighed weights → length weights ≤ 256
weighed_few s arcs rows marks n weighed weights b = omega (arith, b.count, b.size, count_by-le-length (λ (told : Bool). told) weighed)

-- after all rows
pub weighed_all : (s : Site) (arcs : List Arc) (rows : List Row) (marks : List Mark) (n : ℕ) (weighed : List Bool) (weights : List (ℕ × ℤ)) → length rows ≤ n
    → AreWeighed s arcs rows marks n weighed weights → AreTurbineWeights s arcs rows marks weights
weighed_all s arcs rows marks n weighed weights l b = record {
  ascending = b.ascending;
  are_weights = b.are_weights;
  each = λ p r cost first least some. b.each p r cost (omega (arith, l, slice_get_within rows r (out_row p) first.listed)) first least some;
}

-- the weights of turbines are lawful
pub turbine_weights-lawful : (s : Site) (arcs : List Arc) (rows : List Row) (marks : List Mark) (weights : List (ℕ × ℤ)) → IsValid s → AreTurbineWeights s arcs rows marks weights → AreLawful rows weights
turbine_weights-lawful s arcs rows marks weights v h = record {
  ascending = h.ascending;
  listed = λ k d l. let w = h.are_weights k d l in slice_get_within rows _ (out_row w.turbine) w.row.listed;
  not_zero = λ k d l e. let w = h.are_weights k d l in w.some (none w.cost (sym w.value ∙ e));
  small = λ k d l. let w = h.are_weights k d l in
      subst (λ (z : ℤ). unsigned_abs z ≤ 2 ^ 76) (sym w.value) (small w.cost (omega (arith, w.least.reached, cost_small s w.turbine w.least.arc.to w.least.grade (power_of s w.turbine) v w.least.bears)));
  signs = λ k d l row e n. let w = h.are_weights k d l in subst (λ (z : ℤ). pos 0 ≤ℤ z) (sym w.value) (omega (arith, ints));
}
  where
    none : (n : ℕ) → pos (2 ^ 20 * n) ≡ pos 0 → n ≡ 0
    none n e = omega (arith, ints)

    small : (n : ℕ) → n ≤ most_cost → unsigned_abs (pos (2 ^ 20 * n)) ≤ 2 ^ 76
    small n l = omega (arith, ints)
