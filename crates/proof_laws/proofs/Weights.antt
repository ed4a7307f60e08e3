-- The value of lawful weights in a box is at most the cost of each legal layout there.
use Rattle.std.proofs.Common.{◌≡◌, ℕ, ◌*◌, ◌^◌, inl, inr, Bool, true, false, cond, ℤ, pos, negsuc, ◌+ℤ◌, ◌-ℤ◌, ◌*ℤ◌, ◌≤ℤ◌, List, [], ◌∷◌, map, slice_get, Some, None, Option, refl, ap, sym, ◌∙◌, arith}
use Rattle.std.specs.Prelude.{All, IsTrue}
use Rattle.std.specs.List.{enumerate_from}
use Rattle.std.proofs.lemmas.Int.{ints}
use Rattle.std.proofs.Math.Nat.{mul-le-mul_left}
use Rattle.cable_definitions.specs.declared.cable.Cable.{Cable}
use Rattle.cable_definitions.specs.declared.cable.Arc.{Arc}
use Rattle.cable_definitions.specs.declared.row.Mark.{Mark}
use Rattle.cable_definitions.specs.Site.{Site, IsValid}
use Rattle.cable_definitions.specs.Arcs.{AreArcs, cost_of}
use Rattle.cable_definitions.specs.Walk.{cable_out, load}
use Rattle.cable_definitions.specs.Layout.{IsLegal, cost}
use Rattle.cable_definitions.specs.Row.{Row, on_use, on_load, right, is_equation, left, Relates, has_arc, flow_of, IsWellFormed}
use Rattle.cable_definitions.specs.Choice.{Choice, use_of, load_of, cost_of_choice, IsInBox, AreLawful, at_row, sum_weighted, weighted_on_use, weighted_on_load, reduced_cost, IsValue}
use Rattle.cable_definitions.specs.Tree.{counted}
use Rattle.number_laws.proofs.Ring.{var, nat, plus, times, same_value, at_most, at_most_of}
use Rattle.number_laws.proofs.Sums.{sum_int, sum_int-cons, sum_int-zero, sum_int-times, sum_int-same, sum_int-same_on, sum_int-least_on, sum_int-exchange, sum_int-pos, sum_int-minus}
use Rattle.number_laws.proofs.NatSums.{sum_by-times}
use Rattle.layout_laws.proofs.Alike.{cable_out-of}
use Rattle.layout_laws.proofs.Typing.{all-at}
use Rattle.layout_laws.proofs.Used.{sum_int-used_arcs}
use Rattle.proof_laws.proofs.Lists.{true_or_false, sum_int-enumerate}
use Rattle.proof_laws.proofs.RowsHold.{rows-hold}
use Rattle.proof_laws.proofs.Choices.{choice_from, layout_choice, choices-above, left-choices}

-- ---- weighted sums
-- a weight on what two functions say, each a number of times
weighted_row : (f g : Row → ℤ) (z u l : ℤ) (o : Option Row) → (z *ℤ at_row f o) *ℤ u +ℤ (z *ℤ at_row g o) *ℤ l ≡ z *ℤ at_row (λ row. f row *ℤ u +ℤ g row *ℤ l) o
weighted_row f g z u l None = same_value (plus (times (times (var z) (nat 0)) (var u)) (times (times (var z) (nat 0)) (var l))) (times (var z) (nat 0)) (omega arith)
weighted_row f g z u l (Some row) =
    same_value
    (plus (times (times (var z) (var (f row))) (var u)) (times (times (var z) (var (g row))) (var l)))
    (times (var z) (plus (times (var (f row)) (var u)) (times (var (g row)) (var l))))
    (omega arith)

-- the sum of two weighted sums, each taken a number of times
weighted_two : (f g : Row → ℤ) (u l : ℤ) (rows : List Row) (weights : List (ℕ × ℤ))
    → sum_weighted f rows weights *ℤ u +ℤ sum_weighted g rows weights *ℤ l ≡ sum_weighted (λ row. f row *ℤ u +ℤ g row *ℤ l) rows weights
weighted_two f g u l rows [] = same_value (plus (times (nat 0) (var u)) (times (nat 0) (var l))) (nat 0) (omega arith)
weighted_two f g u l rows (w ∷ weights) =
    let o = slice_get rows w.0 in
    let a = sum_int-cons (λ (w : ℕ × ℤ). w.1 *ℤ at_row f (slice_get rows w.0)) w weights in
    let b = sum_int-cons (λ (w : ℕ × ℤ). w.1 *ℤ at_row g (slice_get rows w.0)) w weights in
    let c = sum_int-cons (λ (w : ℕ × ℤ). w.1 *ℤ at_row (λ row. f row *ℤ u +ℤ g row *ℤ l) (slice_get rows w.0)) w weights in
    let d = split (w.1 *ℤ at_row f o) (sum_weighted f rows weights) (w.1 *ℤ at_row g o) (sum_weighted g rows weights) in
    let e = weighted_row f g w.1 u l o in
    let h = weighted_two f g u l rows weights in
    rw (a, b, c) (d ∙ (omega (arith, ints, e, h)))
  where
    split : (x y z t : ℤ) → (x +ℤ y) *ℤ u +ℤ (z +ℤ t) *ℤ l ≡ (x *ℤ u +ℤ z *ℤ l) +ℤ (y *ℤ u +ℤ t *ℤ l)
    split x y z t =
        same_value
        (plus (times (plus (var x) (var y)) (var u)) (times (plus (var z) (var t)) (var l)))
        (plus (plus (times (var x) (var u)) (times (var z) (var l))) (plus (times (var y) (var u)) (times (var t) (var l))))
        (omega arith)

-- a sum of weighted sums is the weighted sum of the sums
pub weighted-exchange : {X : Type 0} → (F : X → Row → ℤ) (xs : List X) (rows : List Row) (weights : List (ℕ × ℤ))
    → sum_int (λ x. sum_weighted (F x) rows weights) xs ≡ sum_weighted (λ row. sum_int (λ x. F x row) xs) rows weights
weighted-exchange {X} F xs rows weights =
    sum_int-exchange (λ (x : X) (w : ℕ × ℤ). w.1 *ℤ at_row (F x) (slice_get rows w.0)) xs weights
    ∙ sum_int-same (λ (w : ℕ × ℤ). sum_int (λ (x : X). w.1 *ℤ at_row (F x) (slice_get rows w.0)) xs) (λ w. w.1 *ℤ at_row (λ row. sum_int (λ x. F x row) xs) (slice_get rows w.0)) weights (λ w.
    sum_int-times w.1 (λ (x : X). at_row (F x) (slice_get rows w.0)) xs ∙ ap (λ (z : ℤ). w.1 *ℤ z) (at_option (slice_get rows w.0)))
  where
    at_option : (o : Option Row) → sum_int (λ (x : X). at_row (F x) o) xs ≡ at_row (λ row. sum_int (λ x. F x row) xs) o
    at_option None = sum_int-zero {X = X} xs
    at_option (Some row) = refl

-- a number that isn't negative keeps the order
times-le : (z a b : ℤ) → pos 0 ≤ℤ z → a ≤ℤ b → (z *ℤ a) ≤ℤ (z *ℤ b)
times-le (pos n) a b s h =
    let f = at_most_of (var a) (var b) h in
    at_most (times (nat n) (var a)) (times (nat n) (var b)) (let g = mul-le-mul_left n f in omega (arith, g))
times-le (negsuc n) a b s h = absurd (omega (arith, ints))

-- a weighted sum is at most another, where each weighted row relates the two as its kind asks
weighted-le : (f g : Row → ℤ) (rows : List Row) (weights : List (ℕ × ℤ)) → AreLawful rows weights
    → ((row : Row) (r : ℕ) → slice_get rows r ≡ Some row → Relates row.kind (g row) (f row)) → sum_weighted f rows weights ≤ℤ sum_weighted g rows weights
weighted-le f g rows weights lawful h =
    sum_int-least_on (λ (w : ℕ × ℤ). w.1 *ℤ at_row f (slice_get rows w.0)) (λ w. w.1 *ℤ at_row g (slice_get rows w.0)) weights (λ i w e. each i w e (slice_get rows w.0) refl)
  where
    each : (i : ℕ) (w : ℕ × ℤ) → slice_get weights i ≡ Some w → (o : Option Row) → slice_get rows w.0 ≡ o → (w.1 *ℤ at_row f o) ≤ℤ (w.1 *ℤ at_row g o)
    each i w e None k = omega (arith, ints)
    each i w e (Some row) k = elim (true_or_false (is_equation row.kind)) [
      | inl t ↦ (let q : g row ≡ f row = (h row w.0 k).1 t in let p = ap (λ (z : ℤ). w.1 *ℤ z) q in omega (arith, ints, p))
      | inr n ↦
          times-le w.1 (f row) (g row)
          (all-at (λ (w : ℕ × ℤ). (row : Row) → slice_get rows w.0 ≡ Some row → ¬ (IsTrue (is_equation row.kind)) → pos 0 ≤ℤ w.1) weights i w lawful.signs e row k (λ t. let q : true ≡ false = sym t ∙ n in cc))
          (h row w.0 k).0
    ]

-- ---- what the arcs count
-- what weighted rows count an arc as, at a choice
weighted-counted : (rows : List Row) (weights : List (ℕ × ℤ)) (a : ℕ) (arc : Arc) (choice : Choice)
    → weighted_on_use rows weights a arc *ℤ pos (use_of choice) +ℤ weighted_on_load rows weights arc *ℤ pos (load_of choice) ≡ sum_weighted (λ row. counted row a arc choice) rows weights
weighted-counted rows weights a arc choice =
    weighted_two (λ row. on_use row.kind row.members a arc.from arc.to) (λ row. on_load row.kind row.members arc.from arc.to) (pos (use_of choice)) (pos (load_of choice)) rows weights

-- so what the choices of a layout leave of their costs are the costs, less the weighted sum of the left sides
reduced-sum : (s : Site) (cables : List Cable) → IsLegal s cables → (arcs : List Arc) (rows : List Row) (weights : List (ℕ × ℤ))
    → sum_int (λ (x : ℕ × Arc). reduced_cost s rows weights x.0 x.1 (layout_choice s cables x.1)) (enumerate_from 0 arcs)
    ≡ sum_int (λ (x : ℕ × Arc). pos (2 ^ 20 * cost_of_choice s x.1 (layout_choice s cables x.1))) (enumerate_from 0 arcs)
    -ℤ sum_weighted (λ row. left row arcs (map (flow_of s cables) arcs)) rows weights
reduced-sum s cables g arcs rows weights =
    let chosen = λ (x : ℕ × Arc). layout_choice s cables x.1 in
    let numbered = enumerate_from 0 arcs in
    let costs = λ (x : ℕ × Arc). pos (2 ^ 20 * cost_of_choice s x.1 (chosen x)) in
    let counts = λ (x : ℕ × Arc). sum_weighted (λ row. counted row x.0 x.1 (chosen x)) rows weights in
    sum_int-same (λ (x : ℕ × Arc). reduced_cost s rows weights x.0 x.1 (chosen x)) (λ x. costs x -ℤ counts x) numbered (λ x.
    omega (arith, ints, weighted-counted rows weights x.0 x.1 (chosen x)))
    ∙ sum_int-minus costs counts numbered
    ∙ ap (λ (z : ℤ). sum_int costs numbered -ℤ z)
    (weighted-exchange (λ (x : ℕ × Arc) row. counted row x.0 x.1 (chosen x)) numbered rows weights
    ∙ sum_int-same (λ (w : ℕ × ℤ). w.1 *ℤ at_row (λ row. sum_int (λ (x : ℕ × Arc). counted row x.0 x.1 (chosen x)) numbered) (slice_get rows w.0))
    (λ w. w.1 *ℤ at_row (λ row. left row arcs (map (flow_of s cables) arcs)) (slice_get rows w.0)) weights (λ w. ap (λ (z : ℤ). w.1 *ℤ z) (at_option (slice_get rows w.0))))
  where
    at_option : (o : Option Row) → at_row (λ row. sum_int (λ (x : ℕ × Arc). counted row x.0 x.1 (layout_choice s cables x.1)) (enumerate_from 0 arcs)) o
        ≡ at_row (λ row. left row arcs (map (flow_of s cables) arcs)) o
    at_option None = refl
    at_option (Some row) = sym (left-choices s cables g row arcs)

-- ---- what the choices cost
-- the cost of a cable from p to q with the type of this one; 0 without one
abbrev pub cost_with : Site → ℕ → ℕ → Option Cable → ℕ → ℕ
cost_with s p q None l = 0
cost_with s p q (Some c) l = cost_of s p q c.grade l

-- the sum over the arcs of what a layout's choices cost is the layout's cost
chosen-cost : (s : Site) (arcs : List Arc) (cables : List Cable) → AreArcs s arcs → IsLegal s cables
    → sum_int (λ (x : ℕ × Arc). pos (2 ^ 20 * cost_of_choice s x.1 (layout_choice s cables x.1))) (enumerate_from 0 arcs) ≡ pos (2 ^ 20 * cost s cables)
chosen-cost s arcs cables are g =
    let f = λ (a : Arc). pos (2 ^ 20 * cost_of_choice s a (layout_choice s cables a)) in
    let h = λ (p q : ℕ). pos (2 ^ 20 * cost_with s p q (cable_out cables p) (load s cables p)) in
    let own = λ (c : Cable). 2 ^ 20 * cost_of s c.from c.to c.grade (load s cables c.from) in
    sum_int-enumerate f arcs 0
    ∙ sum_int-same f (λ a. cond (has_arc cables a) (h a.from a.to) (pos 0)) arcs (λ a. each_arc a (has_arc cables a) (cable_out cables a.from) (load s cables a.from))
    ∙ sum_int-used_arcs s arcs cables are g.candidate g.start h
    ∙ sum_int-same_on (λ (c : Cable). h c.from c.to) (λ c. pos (own c)) cables (λ i c e.
    ap (λ (o : Option Cable). pos (2 ^ 20 * cost_with s c.from c.to o (load s cables c.from))) (cable_out-of cables g.start i c e))
    ∙ sum_int-pos own cables
    ∙ ap pos (sum_by-times (2 ^ 20) (λ (c : Cable). cost_of s c.from c.to c.grade (load s cables c.from)) cables)
  where
    each_arc : (a : Arc) (b : Bool) (o : Option Cable) (l : ℕ) → pos (2 ^ 20 * cost_of_choice s a (choice_from b o l)) ≡ cond b (pos (2 ^ 20 * cost_with s a.from a.to o l)) (pos 0)
    each_arc a true None l = refl
    each_arc a true (Some c) l = refl
    each_arc a false o l = refl

-- the value of lawful weights on well-formed rows is at most the cost of each legal layout in the box, over 2 ^ 20
pub value-le : (s : Site) (arcs : List Arc) (rows : List Row) (marks : List Mark) (weights : List (ℕ × ℤ)) (value : ℤ) (cables : List Cable) → IsValid s → AreArcs s arcs
    → All (IsWellFormed s arcs) rows → AreLawful rows weights → IsValue s arcs rows marks weights value → IsLegal s cables → IsInBox arcs marks cables
    → value ≤ℤ pos (2 ^ 20 * cost s cables)
value-le s arcs rows marks weights value cables v are formed lawful is g box =
    let least = choices-above s cables v g (reduced_cost s rows weights) 0 arcs marks is.is_least.extremes box is.is_least.are_extremes in
    let total = is.is_least.sum in
    let reduced = reduced-sum s cables g arcs rows weights in
    let costs = chosen-cost s arcs cables are g in
    let sides = weighted-le (λ row. right s row.kind row.members) (λ row. left row arcs (map (flow_of s cables) arcs)) rows weights lawful
    (λ row r e. rows-hold s arcs cables row v are (all-at (IsWellFormed s arcs) rows r row formed e) g) in
    let sum = is.sum in
    by_parts _ _ _ _ _ _ _ total sum least reduced costs sides
  where
    by_parts : (value least extremes chosen costs rights lefts : ℤ) → least ≡ extremes → value ≡ rights +ℤ least → extremes ≤ℤ chosen → chosen ≡ costs -ℤ lefts
        → costs ≡ pos (2 ^ 20 * cost s cables) → rights ≤ℤ lefts → value ≤ℤ pos (2 ^ 20 * cost s cables)
    by_parts value least extremes chosen costs rights lefts a b c d e f = omega (arith, ints)
