-- What the rows of sets and their weights reach in each box: the cost of the cheapest in-tree, or a row that is never met.
use Rattle.std.proofs.Common.{◌≡◌, ℕ, suc, ◌+◌, ◌*◌, ◌^◌, ◌<◌, ◌≤◌, inl, inr, Bool, true, false, cond, not, ℤ, pos, ◌+ℤ◌, ◌-ℤ◌, ◌*ℤ◌, ◌≤ℤ◌, List, [], ◌∷◌, ◌++◌, length, option_map, Option, slice_get, Some, IsTrue, All, refl, ap, sym, ◌∙◌, subst, arith}
use Rattle.std.specs.Prelude.{◌&&◌}
use Rattle.std.proofs.lemmas.Int.{ints}
use Rattle.std.proofs.lemmas.Option.{slice_get-map}
use Rattle.std.proofs.Math.Nat.{mul-le-mul_left}
use Rattle.cable_definitions.specs.declared.cable.Arc.{Arc}
use Rattle.cable_definitions.specs.declared.row.Mark.{Mark}
use Rattle.cable_definitions.specs.declared.row.RowKind.TheVariants.{Cut}
use Rattle.cable_definitions.specs.declared.site.Kind.{Kind}
use Rattle.cable_definitions.specs.declared.site.Kind.TheVariants.{Turbine, Substation, Bend}
use Rattle.cable_definitions.specs.Site.{Site, IsValid}
use Rattle.cable_definitions.specs.Arcs.{AreArcs, IsCandidate, Bears, kind_of, is_turbine, power_of, power_of_kind, cost_of}
use Rattle.cable_definitions.specs.InTree.{HasNoBends}
use Rattle.cable_definitions.specs.Row.{Row, is_member, one_if, on_use, on_load, right}
use Rattle.cable_definitions.specs.Choice.{Choice, NoCable, Carries, use_of, load_of, cost_of_choice, IsSumOfExtremes, least_load, IsChoice, at_row, sum_weighted, weighted_on_use, weighted_on_load, reduced_cost, AtMost, IsValue, AreLawful}
use Rattle.number_laws.proofs.NatSums.{sum_by-times}
use Rattle.number_laws.proofs.Ring.{var, nat, minus, times, same_value, at_most}
use Rattle.number_laws.proofs.Sums.{sum_int, sum_int-cons, sum_int-zero, sum_int-same, sum_int-same_on, sum_int-least_on, sum_int-pos}
use Rattle.layout_laws.proofs.Monotone.{cheapest-le_higher}
use Rattle.layout_laws.proofs.Typing.{all-at, some_cheapest}
use Rattle.proof_laws.proofs.Boxes.{append_left, append_right}
use Rattle.proof_laws.proofs.Lists.{some_at}
use Rattle.proof_laws.proofs.NearestValue.{extremes-some}
use Rattle.proof_laws.proofs.NoArc.{cut-without_arcs}
use Rattle.intree_floor.specs.declared.weights.SetWeight.{SetWeight}
use Rattle.intree_floor.specs.Weights.{leaves, weight_left, total_weight, IsTurbineSet, AreSetWeights, IsShut}
use Rattle.intree_floor.specs.Floors.{IsLeastTree, HasNoTree}
use Rattle.intree_floor.proofs.Holding.{candidate-turbine}
use Rattle.floor_rows.specs.Listed.{ListsSets, cut_row, set_rows, weights_of}
use Rattle.floor_rows.specs.Reached.{IsNeverMet, ReachFloor}
use Rattle.floor_rows.proofs.Sets.{set-power, set-right}
use Rattle.floor_rows.proofs.Adding.{sets-small, sets-listed, set-listed, sets-lawful, none-lawful, weights-count}

-- the rows of these sets stand from number n on
abbrev StandFrom : List Row → ℕ → List SetWeight → Type 0
StandFrom rows n sets = (i : ℕ) (w : SetWeight) → slice_get sets i ≡ Some w → slice_get rows (n + i) ≡ Some (cut_row w.members)

-- as they do where they are listed behind others
listed-stand : (old : List Row) (sets : List SetWeight) → StandFrom (old ++ set_rows sets) (length old) sets
listed-stand old sets i w e =
    append_right old (set_rows sets) i ∙ slice_get-map (λ (v : SetWeight). cut_row v.members) sets i ∙ ap (option_map (λ (v : SetWeight). cut_row v.members)) e

-- a weighted sum over these rows is one over the sets
weighted-sets : (f : Row → ℤ) (rows : List Row) (n : ℕ) (sets : List SetWeight) → StandFrom rows n sets
    → sum_weighted f rows (weights_of n sets) ≡ sum_int (λ (w : SetWeight). pos (2 ^ 20 * w.weight) *ℤ f (cut_row w.members)) sets
weighted-sets f rows n [] stand = refl
weighted-sets f rows n (w ∷ sets) stand =
    let term = λ (v : ℕ × ℤ). v.1 *ℤ at_row f (slice_get rows v.0) in
    let here : at_row f (slice_get rows n) ≡ f (cut_row w.members) = ap (λ (k : ℕ). at_row f (slice_get rows k)) (let q : n ≡ n + 0 = omega arith in q) ∙ ap (at_row f) (stand 0 w refl) in
    let one = ap (λ (z : ℤ). pos (2 ^ 20 * w.weight) *ℤ z) here in
    let rest = weighted-sets f rows (n + 1) sets (λ i v e. ap (slice_get rows) (let q : n + 1 + i ≡ n + suc i = omega arith in q) ∙ stand (suc i) v e) in
    let all = sum_int-cons term (n, pos (2 ^ 20 * w.weight)) (weights_of (n + 1) sets) in
    let parts = sum_int-cons (λ (v : SetWeight). pos (2 ^ 20 * v.weight) *ℤ f (cut_row v.members)) w sets in
    omega (arith, ints, one, rest, all, parts)

-- what the rows count a use of an arc as, so weighted, is 2 ^ 20 times the weights of the sets that it leaves
use-sets : (rows : List Row) (n : ℕ) (sets : List SetWeight) → StandFrom rows n sets → (a : ℕ) (arc : Arc)
    → weighted_on_use rows (weights_of n sets) a arc ≡ pos (2 ^ 20 * weight_left sets arc.from arc.to)
use-sets rows n sets stand a arc =
    weighted-sets (λ (row : Row). on_use row.kind row.members a arc.from arc.to) rows n sets stand
    ∙ sum_int-same (λ (w : SetWeight). pos (2 ^ 20 * w.weight) *ℤ one_if (leaves w.members arc.from arc.to)) (λ w. pos (2 ^ 20 * cond (leaves w.members arc.from arc.to) w.weight 0)) sets
    (λ w. by (leaves w.members arc.from arc.to) w.weight)
    ∙ sum_int-pos (λ (w : SetWeight). 2 ^ 20 * cond (leaves w.members arc.from arc.to) w.weight 0) sets
    ∙ ap pos (sum_by-times (2 ^ 20) (λ (w : SetWeight). cond (leaves w.members arc.from arc.to) w.weight 0) sets)
  where
    by : (b : Bool) (k : ℕ) → pos (2 ^ 20 * k) *ℤ one_if b ≡ pos (2 ^ 20 * cond b k 0)
    by true k = same_value (times (nat (2 ^ 20 * k)) (nat 1)) (nat (2 ^ 20 * k)) (omega arith)
    by false k = same_value (times (nat (2 ^ 20 * k)) (nat 0)) (nat (2 ^ 20 * 0)) (omega arith)

-- they count no loads
load-sets : (rows : List Row) (n : ℕ) (sets : List SetWeight) → StandFrom rows n sets → (arc : Arc) → weighted_on_load rows (weights_of n sets) arc ≡ pos 0
load-sets rows n sets stand arc =
    weighted-sets (λ (row : Row). on_load row.kind row.members arc.from arc.to) rows n sets stand
    ∙ sum_int-same (λ (w : SetWeight). pos (2 ^ 20 * w.weight) *ℤ pos 0) (λ w. pos 0) sets (λ w. same_value (times (nat (2 ^ 20 * w.weight)) (nat 0)) (nat 0) (omega arith))
    ∙ sum_int-zero {X = SetWeight} sets

-- their right sides, so weighted, sum to at least 2 ^ 20 times all weights
right-sets : (s : Site) (rows : List Row) (n : ℕ) (sets : List SetWeight) → IsValid s → All (λ w. IsTurbineSet s w.members) sets → StandFrom rows n sets
    → pos (2 ^ 20 * total_weight sets) ≤ℤ sum_weighted (λ row. right s row.kind row.members) rows (weights_of n sets)
right-sets s rows n sets valid are stand =
    let sum = weighted-sets (λ (row : Row). right s row.kind row.members) rows n sets stand in
    let total = sum_int-pos (λ (w : SetWeight). 2 ^ 20 * w.weight) sets in
    let scaled = sum_by-times (2 ^ 20) (λ (w : SetWeight). w.weight) sets in
    let each = sum_int-least_on (λ (w : SetWeight). pos (2 ^ 20 * w.weight)) (λ w. pos (2 ^ 20 * w.weight) *ℤ right s Cut w.members) sets (λ i w e.
    let r = set-right s w.members valid (all-at (λ (v : SetWeight). IsTurbineSet s v.members) sets i w are e) in
    subst (λ (z : ℤ). pos (2 ^ 20 * w.weight) ≤ℤ (pos (2 ^ 20 * w.weight) *ℤ z)) (sym r.1) (times-some (2 ^ 20 * w.weight) r.0 r.2)) in
    by_parts _ _ _ _ _ sum total scaled each
  where
    times-le : (n k : ℕ) → 1 ≤ k → n ≤ n * k
    times-le n k h = grind (arith)

    times-some : (n k : ℕ) → 1 ≤ k → pos n ≤ℤ (pos n *ℤ pos k)
    times-some n k h = at_most (nat n) (times (nat n) (nat k)) (let l = times-le n k h in omega (arith, l))

    by_parts : (rights terms units : ℤ) (units_sum weights : ℕ) → rights ≡ terms → units ≡ pos units_sum → units_sum ≡ 2 ^ 20 * weights → units ≤ℤ terms → pos (2 ^ 20 * weights) ≤ℤ rights
    by_parts rights terms units units_sum weights a b c d = omega (arith, ints)

-- no choice of an arc leaves less than nothing of its cost
reduced-some : (s : Site) (arcs : List Arc) (rows : List Row) (n : ℕ) (sets : List SetWeight) (total : ℕ) → HasNoBends s → AreArcs s arcs → AreSetWeights s sets total → StandFrom rows n sets
    → (i : ℕ) (arc : Arc) (mark : Mark) (choice : Choice) → slice_get arcs i ≡ Some arc → IsChoice s arc mark choice → pos 0 ≤ℤ reduced_cost s rows (weights_of n sets) i arc choice
reduced-some s arcs rows n sets total none are weights stand i arc mark NoCable e c =
    at_most (nat 0) (minus (minus (nat 0) (times (var (weighted_on_use rows (weights_of n sets) i arc)) (nat 0))) (times (var (weighted_on_load rows (weights_of n sets) arc)) (nat 0))) (omega arith)
reduced-some s arcs rows n sets total none are weights stand i arc mark (Carries grade load) e c =
    less (weighted_on_use rows (weights_of n sets) i arc) (weighted_on_load rows (weights_of n sets) arc) (weight_left sets arc.from arc.to) (cost_of s arc.from arc.to grade load)
    (use-sets rows n sets stand i arc) (load-sets rows n sets stand arc) (by_kind (kind_of s arc.from) refl)
  where
    less : (u v : ℤ) (left cost : ℕ) → u ≡ pos (2 ^ 20 * left) → v ≡ pos 0 → left ≤ cost → pos 0 ≤ℤ ((pos (2 ^ 20 * cost) -ℤ u *ℤ pos 1) -ℤ v *ℤ pos load)
    less u v left cost a b l =
        let one = same_value (times (var u) (nat 1)) (var u) (omega arith) in
        let nothing = ap (λ (z : ℤ). z *ℤ pos load) b ∙ same_value (times (nat 0) (nat load)) (nat 0) (omega arith) in
        let scaled = mul-le-mul_left (2 ^ 20) l in
        omega (arith, ints, one, nothing, a, scaled)

    candidate : IsCandidate s arc.from arc.to
    candidate = all-at (λ (a : Arc). IsCandidate s a.from a.to) arcs i arc are.candidates e

    turbine : IsTrue (is_turbine (kind_of s arc.from))
    turbine = candidate-turbine s arc.from arc.to none candidate

    by_kind : (kind : Kind) → kind_of s arc.from ≡ kind → weight_left sets arc.from arc.to ≤ cost_of s arc.from arc.to grade load
    by_kind (Turbine power) k =
        let own : power_of s arc.from ≡ power = ap power_of_kind k in
        let least : least_load (kind_of s arc.from) ≡ power = ap least_load k in
        let low : least_load (kind_of s arc.from) ≤ load = c.2 in
        let under : power_of s arc.from ≤ load = omega (arith, own, least, low) in
        let bears : Bears s grade load = record { listed = c.1; enough = c.3 } in
        elim (some_cheapest s arc.from arc.to (power_of s arc.from)) [
          | inl nothing ↦ absurd (nothing grade (let l = bears.enough in record { listed = c.1; enough = omega (arith, under, l) }))
          | inr cheap ↦
              let paid = weights.paid arc.from arc.to cheap.0 candidate cheap.1 in
              let more = cheapest-le_higher s arc.from arc.to (power_of s arc.from) load cheap.0 grade under cheap.1 bears in
              omega (arith, paid, more)
        ]
    by_kind (Substation feeders power) k = absurd (let q : false ≡ true = sym (ap is_turbine k) ∙ turbine in cc)
    by_kind Bend k = absurd (let q : false ≡ true = sym (ap is_turbine k) ∙ turbine in cc)

-- so the value is at least 2 ^ 20 times all weights
value-sets : (s : Site) (arcs : List Arc) (rows : List Row) (n : ℕ) (sets : List SetWeight) (total : ℕ) (marks : List Mark) (value : ℤ) → IsValid s → HasNoBends s → AreArcs s arcs
    → AreSetWeights s sets total → StandFrom rows n sets → IsValue s arcs rows marks (weights_of n sets) value → pos (2 ^ 20 * total) ≤ℤ value
value-sets s arcs rows n sets total marks value valid none are weights stand is =
    let some = extremes-some s (reduced_cost s rows (weights_of n sets)) 0 arcs marks is.is_least.extremes
    (λ i a m choice e marked c. subst (λ (k : ℕ). pos 0 ≤ℤ reduced_cost s rows (weights_of n sets) k a choice) (let q : i ≡ 0 + i = omega arith in q)
    (reduced-some s arcs rows n sets total none are weights stand i a m choice e c)) is.is_least.are_extremes in
    by_parts _ _ _ _ _ some is.is_least.sum is.sum (right-sets s rows n sets valid weights.are_sets stand) weights.sum
  where
    by_parts : (extremes least rights : ℤ) (left sum : ℕ) → pos 0 ≤ℤ extremes → least ≡ extremes → value ≡ rights +ℤ least → pos (2 ^ 20 * sum) ≤ℤ rights → sum ≡ left
        → pos (2 ^ 20 * left) ≤ℤ value
    by_parts extremes least rights left sum a b c d e = omega (arith, ints)

-- the rows of the sets of the floor reach it
pub sets-reach : (s : Site) (arcs : List Arc) (old : List Row) (tree : List ℕ) (sets : List SetWeight) (total : ℕ) → IsValid s → HasNoBends s → AreArcs s arcs → IsLeastTree s arcs tree sets total
    → ReachFloor s arcs (old ++ set_rows sets) (weights_of (length old) sets)
sets-reach s arcs old tree sets total valid none are floor = record {
  in_tree = λ least f marks value is.
      let reached = value-sets s arcs (old ++ set_rows sets) (length old) sets total marks value valid none are floor.weights (listed-stand old sets) is in
      let no_less = f.no_less floor.least.tree floor.least.is_tree in
      let cost = floor.least.reached in
      let under : least ≤ total = omega (arith, no_less, cost) in
      let scaled = mul-le-mul_left (2 ^ 20) under in
      omega (arith, ints, reached, scaled);
  no_in_tree = λ no_tree. absurd (no_tree floor.least.tree floor.least.is_tree);
}

-- the row of a set of turbines that no candidate arc leaves is never met
pub shut-never_met : (s : Site) (arcs : List Arc) (members : List ℕ) → IsValid s → AreArcs s arcs → IsShut s members → IsNeverMet s arcs (cut_row members)
shut-never_met s arcs members valid are shut = λ marks count.
    cut-without_arcs s arcs marks members valid are count (set-power s members valid shut.is_set)
    (λ k a e inside. stays (is_member members a.from) (is_member members a.to) (shut.none_leaves a.from a.to (all-at (λ (b : Arc). IsCandidate s b.from b.to) arcs k a are.candidates e)) inside)
  where
    stays : (b c : Bool) → ¬ (IsTrue (b && not c)) → b ≡ true → c ≡ true
    stays true true n e = refl
    stays true false n e = absurd (n refl)
    stays false c n e = absurd (cc)

-- so it reaches the floor of a site without an in-tree, without weights
pub shut-reach : (s : Site) (arcs : List Arc) (old : List Row) (members : List ℕ) → IsValid s → AreArcs s arcs → HasNoTree s members → ReachFloor s arcs (old ++ cut_row members ∷ []) []
shut-reach s arcs old members valid are no_tree = record {
  in_tree = λ least f marks value is. absurd (no_tree.none f.tree f.is_tree);
  no_in_tree = λ none. (
    length old,
    cut_row members,
    ap (slice_get (old ++ cut_row members ∷ [])) (let q : length old ≡ length old + 0 = omega arith in q) ∙ append_right old (cut_row members ∷ []) 0,
    shut-never_met s arcs members valid are no_tree.shut,
  );
}

-- ---- the listing as a whole
-- what the rows and the weights are when all are listed
pub record IsDone (s : Site) (arcs : List Arc) (old new : List Row) (weights : List (ℕ × ℤ)) : Type 0 where
  pub lists : ListsSets s arcs old new
  pub lawful : AreLawful new weights
  pub few : length weights ≤ 1024
  pub floor : ReachFloor s arcs new weights

-- the sets of the floor are listed
pub sets-done : (s : Site) (arcs : List Arc) (old : List Row) (tree : List ℕ) (sets : List SetWeight) (total : ℕ) → IsValid s → HasNoBends s → AreArcs s arcs → IsLeastTree s arcs tree sets total
    → IsDone s arcs old (old ++ set_rows sets) (weights_of (length old) sets)
sets-done s arcs old tree sets total valid none are floor =
    let small = sets-small s sets total floor.least.tree valid floor.weights floor.least.is_tree floor.few in
    record {
      lists = sets-listed s arcs old sets valid small;
      lawful = sets-lawful s old sets small floor.weights.some;
      few = (let few = floor.few in let count = weights-count (length old) sets in omega (arith, few, count));
      floor = sets-reach s arcs old tree sets total valid none are floor;
    }

-- the set that no candidate arc leaves is listed
pub shut-done : (s : Site) (arcs : List Arc) (old : List Row) (members : List ℕ) → IsValid s → AreArcs s arcs → HasNoTree s members → IsDone s arcs old (old ++ cut_row members ∷ []) []
shut-done s arcs old members valid are no_tree = record {
  lists = set-listed s arcs old members valid no_tree.shut.is_set;
  lawful = none-lawful (old ++ cut_row members ∷ []);
  few = omega arith;
  floor = shut-reach s arcs old members valid are no_tree;
}

-- ---- further rows
-- further rows change no weighted sum
weighted-further : (f : Row → ℤ) (rows more : List Row) (weights : List (ℕ × ℤ)) → All (λ w. w.0 < length rows) weights → sum_weighted f (rows ++ more) weights ≡ sum_weighted f rows weights
weighted-further f rows more weights listed =
    sum_int-same_on (λ (w : ℕ × ℤ). w.1 *ℤ at_row f (slice_get (rows ++ more) w.0)) (λ w. w.1 *ℤ at_row f (slice_get rows w.0)) weights
    (λ i w e. ap (λ (o : Option Row). w.1 *ℤ at_row f o) (same w.0 (all-at (λ (v : ℕ × ℤ). v.0 < length rows) weights i w listed e)))
  where
    same : (k : ℕ) → k < length rows → slice_get (rows ++ more) k ≡ slice_get rows k
    same k l = let r = some_at rows k l in append_left rows more k r.0 r.1 ∙ sym r.1

-- nor what a choice leaves of its cost
reduced-further : (s : Site) (rows more : List Row) (weights : List (ℕ × ℤ)) → All (λ w. w.0 < length rows) weights → reduced_cost s (rows ++ more) weights ≡ reduced_cost s rows weights
reduced-further s rows more weights listed = λ i a arc choice.
    ((pos (2 ^ 20 * cost_of_choice s arc choice)
    -ℤ weighted-further (λ (row : Row). on_use row.kind row.members a arc.from arc.to) rows more weights listed i *ℤ pos (use_of choice))
    -ℤ weighted-further (λ (row : Row). on_load row.kind row.members arc.from arc.to) rows more weights listed i *ℤ pos (load_of choice))

-- so lawful weights have the same value where further rows are listed
pub value-further : (s : Site) (arcs : List Arc) (rows more : List Row) (marks : List Mark) (weights : List (ℕ × ℤ)) (value : ℤ) → AreLawful rows weights → IsValue s arcs (rows ++ more) marks weights value
    → IsValue s arcs rows marks weights value
value-further s arcs rows more marks weights value lawful is = record {
  least = is.least;
  is_least = subst (λ (f : ℕ → Arc → Choice → ℤ). IsSumOfExtremes AtMost s arcs marks f is.least) (reduced-further s rows more weights lawful.listed) is.is_least;
  sum = is.sum ∙ ap (λ (z : ℤ). z +ℤ is.least) (weighted-further (λ (row : Row). right s row.kind row.members) rows more weights lawful.listed);
}

-- and reach the floor still
pub reach-further : (s : Site) (arcs : List Arc) (rows more : List Row) (weights : List (ℕ × ℤ)) → AreLawful rows weights → ReachFloor s arcs rows weights → ReachFloor s arcs (rows ++ more) weights
reach-further s arcs rows more weights lawful reach = record {
  in_tree = λ least f marks value is. reach.in_tree least f marks value (value-further s arcs rows more marks weights value lawful is);
  no_in_tree = λ none. let r = reach.no_in_tree none in (r.0, r.1, append_left rows more r.0 r.1 r.2, r.3);
}
