-- Weights have one value in a box, and make one bound; and weights on the rows of turbines alone can have a value of at least the sum of the least costs out of them.
use Rattle.std.proofs.Common.{◌≡◌, ◌≢◌, ℕ, suc, ◌+◌, ◌*◌, ◌^◌, ◌<◌, ◌≤◌, ◌⊎◌, inl, inr, Bool, true, false, cond, eqb, ℤ, pos, ◌+ℤ◌, ◌-ℤ◌, ◌*ℤ◌, ◌≤ℤ◌, List, [], ◌∷◌, length, sum, slice_get, Some, None, Option, refl, ap, sym, ◌∙◌, subst, arith}
use Rattle.std.specs.Prelude.{◌||◌, IsTrue}
use Rattle.std.specs.List.{range_with_len}
use Rattle.std.proofs.lemmas.Int.{ints}
use Rattle.std.proofs.lemmas.Bool.Decides.{eqb_tells}
use Rattle.std.proofs.lemmas.List.Sums.{sum_by-cons}
use Rattle.std.proofs.Math.Nat.{mul-le-mul_left}
use Rattle.cable_definitions.specs.declared.cable.Arc.{Arc}
use Rattle.cable_definitions.specs.declared.row.Mark.{Mark}
use Rattle.cable_definitions.specs.declared.row.RowKind.{RowKind}
use Rattle.cable_definitions.specs.declared.row.RowKind.TheVariants.{Out}
use Rattle.cable_definitions.specs.declared.site.Kind.{Kind}
use Rattle.cable_definitions.specs.declared.site.Kind.TheVariants.{Turbine, Substation, Bend}
use Rattle.cable_definitions.specs.declared.site.Point.{Point}
use Rattle.cable_definitions.specs.Site.{Site}
use Rattle.cable_definitions.specs.Arcs.{kind_of, kind_from, is_turbine, power_of, power_of_kind, cost_of, capacity_of}
use Rattle.cable_definitions.specs.Budget.{IsLeastOut, LeastOutAt, AreLeastOut, IsNearest}
use Rattle.cable_definitions.specs.Row.{Row, is_member, one_if, on_use, on_load, right, speaks_of, has_one_member, member_count, RightCount, InRange, RightKind, IsWellFormed}
use Rattle.cable_definitions.specs.Choice.{Choice, NoCable, Carries, least_load, IsChoice, at_row, sum_weighted, weighted_on_use, weighted_on_load, reduced_cost, AtMost, AreExtremes, IsValue}
use Rattle.cable_definitions.specs.Tree.{IsBound}
use Rattle.number_laws.proofs.Ring.{var, nat, minus, times, same_value, at_most}
use Rattle.number_laws.proofs.Sums.{sum_int, sum_int-cons, sum_int-zero, sum_int-same, sum_int-same_on, sum_int-one_of}
use Rattle.layout_laws.proofs.Monotone.{cost_of-le}
use Rattle.proof_laws.specs.OutWeights.{weight_at, AreOutWeights}
use Rattle.proof_laws.proofs.Lists.{one_element}
use Rattle.proof_laws.proofs.Weights.{weighted-exchange}

-- ---- one value
-- least values of one function have one sum
extremes-same : (s : Site) (f : ℕ → Arc → Choice → ℤ) (n : ℕ) (arcs : List Arc) (marks : List Mark) (xs ys : List ℤ) → AreExtremes AtMost s f n arcs marks xs
    → AreExtremes AtMost s f n arcs marks ys → sum_int (λ z. z) xs ≡ sum_int (λ z. z) ys
extremes-same s f n [] [] [] [] h k = refl
extremes-same s f n [] [] [] (y ∷ ys) h k = absurd k
extremes-same s f n [] [] (x ∷ xs) ys h k = absurd h
extremes-same s f n [] (m ∷ marks) xs ys h k = absurd h
extremes-same s f n (a ∷ arcs) [] xs ys h k = absurd h
extremes-same s f n (a ∷ arcs) (m ∷ marks) [] ys h k = absurd h
extremes-same s f n (a ∷ arcs) (m ∷ marks) (x ∷ xs) [] h k = absurd k
extremes-same s f n (a ∷ arcs) (m ∷ marks) (x ∷ xs) (y ∷ ys) h k =
    let p : x ≤ℤ f n a k.0.choice = h.0.none_beyond k.0.choice k.0.is_choice in
    let q : y ≤ℤ f n a h.0.choice = k.0.none_beyond h.0.choice h.0.is_choice in
    let x_is = h.0.reached in
    let y_is = k.0.reached in
    let rest = extremes-same s f (n + 1) arcs marks xs ys h.1 k.1 in
    omega (arith, ints, p, q, x_is, y_is, rest, sum_int-cons (λ (z : ℤ). z) x xs, sum_int-cons (λ (z : ℤ). z) y ys)

-- so weights have one value in a box
pub value-same : (s : Site) (arcs : List Arc) (rows : List Row) (marks : List Mark) (weights : List (ℕ × ℤ)) (a b : ℤ) → IsValue s arcs rows marks weights a
    → IsValue s arcs rows marks weights b → a ≡ b
value-same s arcs rows marks weights a b v w =
    let same = extremes-same s (reduced_cost s rows weights) 0 arcs marks v.is_least.extremes w.is_least.extremes v.is_least.are_extremes w.is_least.are_extremes in
    let p = v.sum in
    let q = w.sum in
    let x = v.is_least.sum in
    let y = w.is_least.sum in
    omega (arith, ints, same, p, q, x, y)

-- and a value makes one bound
pub bound-same : (parent : ℕ) (value : ℤ) (a b : ℕ) → IsBound parent value a → IsBound parent value b → a ≡ b
bound-same parent value a b h k =
    let l = h.least b k.parent k.value_below in
    let m = k.least a h.parent h.value_below in
    omega (arith, l, m)

-- ---- values where no choice leaves less than nothing
-- least values that aren't negative have a sum that isn't
pub extremes-some : (s : Site) (f : ℕ → Arc → Choice → ℤ) (n : ℕ) (arcs : List Arc) (marks : List Mark) (xs : List ℤ)
    → ((i : ℕ) (a : Arc) (m : Mark) (choice : Choice) → slice_get arcs i ≡ Some a → slice_get marks i ≡ Some m → IsChoice s a m choice → pos 0 ≤ℤ f (n + i) a choice)
    → AreExtremes AtMost s f n arcs marks xs → pos 0 ≤ℤ sum_int (λ z. z) xs
extremes-some s f n [] [] [] h e = omega (arith, ints)
extremes-some s f n [] [] (x ∷ xs) h e = absurd e
extremes-some s f n [] (m ∷ marks) xs h e = absurd e
extremes-some s f n (a ∷ arcs) [] xs h e = absurd e
extremes-some s f n (a ∷ arcs) (m ∷ marks) [] h e = absurd e
extremes-some s f n (a ∷ arcs) (m ∷ marks) (x ∷ xs) h e =
    let here : pos 0 ≤ℤ f n a e.0.choice = subst (λ (k : ℕ). pos 0 ≤ℤ f k a e.0.choice) (let q : n + 0 ≡ n = omega arith in q) (h 0 a m e.0.choice refl refl e.0.is_choice) in
    let is = e.0.reached in
    let rest = extremes-some s f (n + 1) arcs marks xs
    (λ i b k c u v w. subst (λ (j : ℕ). pos 0 ≤ℤ f j b c) (let q : n + suc i ≡ n + 1 + i = omega arith in q) (h (suc i) b k c u v w)) e.1 in
    omega (arith, ints, here, is, rest, sum_int-cons (λ (z : ℤ). z) x xs)

-- ---- weights on `Out` rows
-- weighted sums of functions that agree on the weighted rows
weighted-same : (s : Site) (arcs : List Arc) (rows : List Row) (marks : List Mark) (weights : List (ℕ × ℤ)) → AreOutWeights s arcs rows marks weights → (f g : Row → ℤ)
    → ((row : Row) → row.kind ≡ Out → IsWellFormed s arcs row → f row ≡ g row) → sum_weighted f rows weights ≡ sum_weighted g rows weights
weighted-same s arcs rows marks weights out f g h =
    sum_int-same_on (λ (w : ℕ × ℤ). w.1 *ℤ at_row f (slice_get rows w.0)) (λ w. w.1 *ℤ at_row g (slice_get rows w.0)) weights (λ i w e.
    let r = out.listed i w e in
    ap (λ (o : Option Row). w.1 *ℤ at_row f o) r.1 ∙ ap (λ (z : ℤ). w.1 *ℤ z) (h r.0 r.2 r.3) ∙ sym (ap (λ (o : Option Row). w.1 *ℤ at_row g o) r.1))

-- a weighted sum of nothing
weighted-zero : (rows : List Row) (weights : List (ℕ × ℤ)) → sum_weighted (λ row. pos 0) rows weights ≡ pos 0
weighted-zero rows weights =
    sum_int-same (λ (w : ℕ × ℤ). w.1 *ℤ at_row (λ row. pos 0) (slice_get rows w.0)) (λ w. pos 0) weights (λ w. by_option w.1 (slice_get rows w.0)) ∙ sum_int-zero {X = ℕ × ℤ} weights
  where
    by_option : (z : ℤ) (o : Option Row) → z *ℤ at_row (λ row. pos 0) o ≡ pos 0
    by_option z None = same_value (times (var z) (nat 0)) (nat 0) (omega arith)
    by_option z (Some row) = same_value (times (var z) (nat 0)) (nat 0) (omega arith)

-- what weighted `Out` rows count a use as
out-use : (s : Site) (arcs : List Arc) (rows : List Row) (marks : List Mark) (weights : List (ℕ × ℤ)) → AreOutWeights s arcs rows marks weights → (a : ℕ) (arc : Arc)
    → weighted_on_use rows weights a arc ≡ weight_at rows weights arc.from
out-use s arcs rows marks weights out a arc =
    weighted-same s arcs rows marks weights out (λ row. on_use row.kind row.members a arc.from arc.to) (λ row. one_if (is_member row.members arc.from))
    (λ row e f. ap (λ (k : RowKind). on_use k row.members a arc.from arc.to) e)

-- they don't count loads
out-load : (s : Site) (arcs : List Arc) (rows : List Row) (marks : List Mark) (weights : List (ℕ × ℤ)) → AreOutWeights s arcs rows marks weights → (arc : Arc)
    → weighted_on_load rows weights arc ≡ pos 0
out-load s arcs rows marks weights out arc =
    weighted-same s arcs rows marks weights out (λ row. on_load row.kind row.members arc.from arc.to) (λ row. pos 0) (λ row e f. ap (λ (k : RowKind). on_load k row.members arc.from arc.to) e)
    ∙ weighted-zero rows weights

-- members that are one turbine
pub record IsTurbineRow (s : Site) (members : List ℕ) : Type 0 where
  pub turbine : ℕ
  pub members_are : members ≡ turbine ∷ []
  pub within : turbine < length s.points
  pub turbine_there : IsTrue (is_turbine (kind_of s turbine))

-- its one member is a turbine
pub out-row : (s : Site) (arcs : List Arc) (row : Row) → row.kind ≡ Out → IsWellFormed s arcs row → IsTurbineRow s row.members
out-row s arcs row e formed = by row.kind row.members e (λ i. (formed RightCount i 0).0) (λ i. formed InRange i 0) (λ i. formed RightKind i 0)
  where
    by : (kind : RowKind) (members : List ℕ) → kind ≡ Out → (ℕ → IsTrue (has_one_member kind) → length members ≡ 1)
        → ((i m : ℕ) → slice_get members i ≡ Some m → m < member_count s arcs kind) → ((i m : ℕ) → slice_get members i ≡ Some m → IsTrue (speaks_of kind (kind_of s m)))
        → IsTurbineRow s members
    by kind members e count range kinds =
        let one = one_element members (count 0 (subst (λ k. IsTrue (has_one_member k)) (sym e) refl)) in
        let at : slice_get members 0 ≡ Some one.0 = ap (λ (ms : List ℕ). slice_get ms 0) one.1 in
        record {
          turbine = one.0;
          members_are = one.1;
          within = subst (λ k. one.0 < member_count s arcs k) e (range 0 one.0 at);
          turbine_there = subst (λ k. IsTrue (speaks_of k (kind_of s one.0))) e (kinds 0 one.0 at);
        }

-- whether a point is the one member, as a number
one_member : (m p : ℕ) → one_if (is_member (m ∷ []) p) ≡ cond (eqb m p) (pos 1) (pos 0)
one_member m p = by (eqb m p)
  where
    by : (b : Bool) → one_if (b || false) ≡ cond b (pos 1) (pos 0)
    by true = refl
    by false = refl

-- a point that is no turbine has no weight
weight_at-none : (s : Site) (arcs : List Arc) (rows : List Row) (marks : List Mark) (weights : List (ℕ × ℤ)) → AreOutWeights s arcs rows marks weights → (p : ℕ) → ¬ IsTrue (is_turbine (kind_of s p))
    → weight_at rows weights p ≡ pos 0
weight_at-none s arcs rows marks weights out p other =
    weighted-same s arcs rows marks weights out (λ row. one_if (is_member row.members p)) (λ row. pos 0) (λ row e f.
    let r = out-row s arcs row e f in
    ap (λ (ms : List ℕ). one_if (is_member ms p)) r.members_are ∙ one_member r.turbine p ∙ never r.turbine r.turbine_there (eqb_tells r.turbine p))
    ∙ weighted-zero rows weights
  where
    never : (m : ℕ) → IsTrue (is_turbine (kind_of s m)) → ((eqb m p ≡ true) × (m ≡ p)) ⊎ ((eqb m p ≡ false) × (m ≢ p)) → cond (eqb m p) (pos 1) (pos 0) ≡ pos 0
    never m t (inl h) = absurd (other (subst (λ (k : ℕ). IsTrue (is_turbine (kind_of s k))) h.1 t))
    never m t (inr h) = ap (λ (b : Bool). cond b (pos 1) (pos 0)) h.0

-- the weights are the weighted right sides, and their sum over all points
weights-sum : (s : Site) (arcs : List Arc) (rows : List Row) (marks : List Mark) (weights : List (ℕ × ℤ)) → AreOutWeights s arcs rows marks weights
    → sum_weighted (λ row. right s row.kind row.members) rows weights ≡ sum_int (weight_at rows weights) (range_with_len 0 (length s.points))
weights-sum s arcs rows marks weights out =
    weighted-same s arcs rows marks weights out (λ row. right s row.kind row.members) (λ row. sum_int (λ (p : ℕ). one_if (is_member row.members p)) (range_with_len 0 (length s.points))) (λ row e f.
    let r = out-row s arcs row e f in
    ap (λ (k : RowKind). right s k row.members) e
    ∙ sym (ap (λ (ms : List ℕ). sum_int (λ (p : ℕ). one_if (is_member ms p)) (range_with_len 0 (length s.points))) r.members_are
    ∙ sum_int-same (λ (p : ℕ). one_if (is_member (r.turbine ∷ []) p)) (λ p. cond (eqb r.turbine p) (pos 1) (pos 0)) (range_with_len 0 (length s.points)) (one_member r.turbine)
    ∙ sum_int-one_of r.turbine (pos 1) 0 (length s.points) (omega arith) (let l = r.within in omega arith)))
    ∙ sym (weighted-exchange (λ (p : ℕ) row. one_if (is_member row.members p)) (range_with_len 0 (length s.points)) rows weights)

-- where each turbine's value is at least each least cost out of it, and no other point's is negative, the sum of such costs is at most the sum of the values
nearest-sum : (s : Site) (value : ℕ → ℤ) → ((p least : ℕ) → IsTrue (is_turbine (kind_of s p)) → IsLeastOut s p least → pos (2 ^ 20 * least) ≤ℤ value p)
    → ((p : ℕ) → ¬ IsTrue (is_turbine (kind_of s p)) → pos 0 ≤ℤ value p)
    → (p : ℕ) (points : List Point) (costs : List ℕ) → ((i : ℕ) (x : Point) → slice_get points i ≡ Some x → slice_get s.points (p + i) ≡ Some x)
    → AreLeastOut s p points costs → pos (2 ^ 20 * sum costs) ≤ℤ sum_int value (range_with_len p (length points))
nearest-sum s value h k p [] [] at a = omega (arith, ints)
nearest-sum s value h k p [] (cost ∷ costs) at a = absurd a
nearest-sum s value h k p (x ∷ points) costs at a =
    by x.kind kind costs a (λ further b. nearest-sum s value h k (p + 1) points further later b)
  where
    kind : kind_of s p ≡ x.kind
    kind = ap kind_from (ap (slice_get s.points) (let e : p ≡ p + 0 = omega arith in e) ∙ at 0 x refl)

    later : (i : ℕ) (y : Point) → slice_get points i ≡ Some y → slice_get s.points (p + 1 + i) ≡ Some y
    later i y e = ap (slice_get s.points) (let n : p + 1 + i ≡ p + suc i = omega arith in n) ∙ at (suc i) y e

    other : (kind : Kind) → kind_of s p ≡ kind → is_turbine kind ≡ false → ¬ IsTrue (is_turbine (kind_of s p))
    other kind e f t = let q : true ≡ false = sym t ∙ ap is_turbine e ∙ f in cc

    by : (kind : Kind) → kind_of s p ≡ kind → (costs : List ℕ) → LeastOutAt s p kind costs (AreLeastOut s (p + 1) points)
        → ((further : List ℕ) → AreLeastOut s (p + 1) points further → pos (2 ^ 20 * sum further) ≤ℤ sum_int value (range_with_len (p + 1) (length points)))
        → pos (2 ^ 20 * sum costs) ≤ℤ sum_int value (range_with_len p (suc (length points)))
    by (Turbine power) e [] l rest = absurd l
    by (Turbine power) e (cost ∷ costs) l rest =
        let one = h p cost (ap is_turbine e) l.0 in
        let others = rest costs l.1 in
        omega (arith, ints, sum_by-cons (λ (n : ℕ). n) cost costs, sum_int-cons value p (range_with_len (p + 1) (length points)), one, others)
    by (Substation feeders power) e costs l rest =
        let others = rest costs l in
        let none = k p (other (Substation feeders power) e refl) in
        omega (arith, ints, sum_int-cons value p (range_with_len (p + 1) (length points)), none, others)
    by Bend e costs l rest =
        let others = rest costs l in
        let none = k p (other Bend e refl) in
        omega (arith, ints, sum_int-cons value p (range_with_len (p + 1) (length points)), none, others)

-- no choice leaves less than nothing of its cost
reduced-some : (s : Site) (arcs : List Arc) (rows : List Row) (marks : List Mark) (weights : List (ℕ × ℤ)) → AreOutWeights s arcs rows marks weights
    → (i : ℕ) (arc : Arc) (mark : Mark) (choice : Choice) → slice_get arcs i ≡ Some arc → slice_get marks i ≡ Some mark → IsChoice s arc mark choice
    → pos 0 ≤ℤ reduced_cost s rows weights i arc choice
reduced-some s arcs rows marks weights out i arc mark NoCable e f c =
    at_most (nat 0) (minus (minus (nat 0) (times (var (weighted_on_use rows weights i arc)) (nat 0))) (times (var (weighted_on_load rows weights arc)) (nat 0))) (omega arith)
reduced-some s arcs rows marks weights out i arc mark (Carries grade load) e f c =
    let uses = out-use s arcs rows marks weights out i arc in
    let loads = out-load s arcs rows marks weights out arc in
    let enough : weight_at rows weights arc.from ≤ℤ pos (2 ^ 20 * cost_of s arc.from arc.to grade load) = by_kind (kind_of s arc.from) refl in
    less (weighted_on_use rows weights i arc) (weighted_on_load rows weights arc) (weight_at rows weights arc.from) (2 ^ 20 * cost_of s arc.from arc.to grade load) uses loads enough
  where
    less : (u v w : ℤ) (n : ℕ) → u ≡ w → v ≡ pos 0 → w ≤ℤ pos n → pos 0 ≤ℤ ((pos n -ℤ u *ℤ pos 1) -ℤ v *ℤ pos load)
    less u v w n a b l =
        let one = same_value (times (var u) (nat 1)) (var u) (omega arith) in
        let none = ap (λ (z : ℤ). z *ℤ pos load) b ∙ same_value (times (nat 0) (nat load)) (nat 0) (omega arith) in
        omega (arith, ints, one, none)

    none : is_turbine (kind_of s arc.from) ≡ false → weight_at rows weights arc.from ≤ℤ pos (2 ^ 20 * cost_of s arc.from arc.to grade load)
    none h =
        let z = weight_at-none s arcs rows marks weights out arc.from (λ t. let q : true ≡ false = sym t ∙ h in cc) in
        omega (arith, ints, z)

    by_kind : (kind : Kind) → kind_of s arc.from ≡ kind → weight_at rows weights arc.from ≤ℤ pos (2 ^ 20 * cost_of s arc.from arc.to grade load)
    by_kind (Turbine power) k =
        let own : power_of s arc.from ≡ power = ap power_of_kind k in
        let least : least_load (kind_of s arc.from) ≡ power = ap least_load k in
        let low : least_load (kind_of s arc.from) ≤ load = c.2 in
        let high : load ≤ capacity_of s grade = c.3 in
        let under : power_of s arc.from ≤ load = omega (arith, own, least, low) in
        let w = out.not_above i grade arc mark e f c.0 (ap is_turbine k) (record { listed = c.1; enough = omega arith }) in
        let more = cost_of-le s arc.from arc.to grade (power_of s arc.from) load under in
        let scaled = mul-le-mul_left (2 ^ 20) more in
        omega (arith, ints, w, scaled)
    by_kind (Substation feeders power) k = none (ap is_turbine k)
    by_kind Bend k = none (ap is_turbine k)

-- the value of such weights is at least the sum of the least costs out of the turbines
pub value-nearest : (s : Site) (arcs : List Arc) (rows : List Row) (marks : List Mark) (weights : List (ℕ × ℤ)) (value : ℤ) (nearest : ℕ) → AreOutWeights s arcs rows marks weights
    → IsValue s arcs rows marks weights value → IsNearest s nearest → pos (2 ^ 20 * nearest) ≤ℤ value
value-nearest s arcs rows marks weights value nearest out is n =
    let some = extremes-some s (reduced_cost s rows weights) 0 arcs marks is.is_least.extremes
    (λ i arc mark choice e f c. subst (λ (k : ℕ). pos 0 ≤ℤ reduced_cost s rows weights k arc choice) (let q : i ≡ 0 + i = omega arith in q) (reduced-some s arcs rows marks weights out i arc mark choice e f c))
    is.is_least.are_extremes in
    let least = is.is_least.sum in
    let sides = weights-sum s arcs rows marks weights out in
    let sum = is.sum in
    let costs = nearest-sum s (weight_at rows weights) out.enough
    (λ p other. let z = weight_at-none s arcs rows marks weights out p other in omega (arith, ints, z)) 0 s.points n.0
    (λ i x e. ap (slice_get s.points) (let z : 0 + i ≡ i = omega arith in z) ∙ e) n.1 in
    let total = n.2 in
    by_parts _ _ _ _ _ _ _ some least sides sum costs total
  where
    by_parts : (extremes least rights values : ℤ) (costs total : ℕ) (v : ℤ) → pos 0 ≤ℤ extremes → least ≡ extremes → rights ≡ values → v ≡ rights +ℤ least
        → pos (2 ^ 20 * costs) ≤ℤ values → total ≡ costs → pos (2 ^ 20 * total) ≤ℤ v
    by_parts extremes least rights values costs total v a b c d e f = omega (arith, ints)
