-- Each well-formed row holds of each legal layout.
use Rattle.std.proofs.Common.{◌≡◌, ◌≢◌, ℕ, ◌+◌, ◌*◌, ◌<◌, ◌≤◌, ◌⊎◌, inl, inr, Bool, true, false, not, cond, ℤ, pos, neg_ℤ, ◌+ℤ◌, ◌-ℤ◌, ◌*ℤ◌, ◌≤ℤ◌, List, [], ◌∷◌, map, length, slice_get, Some, sum_by, count_by, refl, ap, sym, ◌∙◌, subst, arith, eqb-true}
use Rattle.std.specs.Prelude.{◌==◌, ◌&&◌, ◌||◌, IsTrue}
use Rattle.std.specs.List.{enumerate_from}
use Rattle.std.proofs.lemmas.Int.{ints}
use Rattle.std.proofs.lemmas.Bool.Decides.{eqb_tells}
use Rattle.cable_definitions.specs.declared.cable.Cable.{Cable}
use Rattle.cable_definitions.specs.declared.cable.Arc.{Arc}
use Rattle.cable_definitions.specs.declared.row.RowKind.{RowKind}
use Rattle.cable_definitions.specs.declared.row.RowKind.TheVariants.{Out, Flow, Inlet, Bend, Power, One, Cut}
use Rattle.cable_definitions.specs.declared.site.Kind.{Kind}
use Rattle.cable_definitions.specs.declared.site.Kind.TheVariants.{Turbine, Substation, Bend as BendKind}
use Rattle.cable_definitions.specs.Site.{Site, IsValid}
use Rattle.cable_definitions.specs.Arcs.{AreArcs, kind_of, is_turbine, is_substation, is_bend, power_of, largest_capacity}
use Rattle.cable_definitions.specs.Walk.{load, load_into, starts_in, ends_in}
use Rattle.cable_definitions.specs.Layout.{IsLegal}
use Rattle.cable_definitions.specs.Row.{Row, is_member, one_if, on_use, on_load, inlet_limit, power_limit, rounded_up, is_equation, count_of, left, Relates, has_arc, flow_of, Holds, RightCount, InRange, Ascending, RightKind, NoSubstation, Incompatible, IsWellFormed}
use Rattle.number_laws.proofs.Ring.{var, nat, plus, minus, times, same_value}
use Rattle.number_laws.proofs.Sums.{sum_int, sum_int-same, sum_int-minus, sum_int-zero, sum_int-pos}
use Rattle.number_laws.proofs.NatSums.{sum_by-le_on, sum_by-times}
use Rattle.number_laws.proofs.Ceiling.{ceiling-least}
use Rattle.number_laws.proofs.Keys.{DifferentKeys-ascending}
use Rattle.number_laws.proofs.Places.{slice_get-enumerate_from}
use Rattle.layout_laws.proofs.Sets.{leaves, power-le-loads_out}
use Rattle.proof_laws.proofs.Lists.{true_or_false, both, eqb_swapped, list_any-place, count_by-one, one_element}
use Rattle.proof_laws.proofs.Cables.{cable_on, left-by, left-over_cables}
use Rattle.proof_laws.proofs.Compatible.{none_incompatible}
use Rattle.proof_laws.proofs.Points.{starts_in-some, sent_on, bend_point, substation_kind, bend_kind, turbine_out, ends_in-limit, load-most, largest_capacity-some}

-- a row with one member
abbrev pub row_at : RowKind → ℕ → Row
row_at kind m = record { kind = kind; members = m ∷ [] }

-- whether a point is the one member
pub member-one : (m p : ℕ) → is_member (m ∷ []) p ≡ (p == m)
member-one m p = elim (true_or_false (m == p)) [
  | inl t ↦ let e : (m == p || false) ≡ true = rw t refl in e ∙ sym (sym (eqb_swapped m p) ∙ t)
  | inr t ↦ let e : (m == p || false) ≡ false = rw t refl in e ∙ sym (sym (eqb_swapped m p) ∙ t)
]

-- where both sides of an equation are equal, the row's relation holds
pub Relates-equal : (kind : RowKind) (l r : ℤ) → l ≡ r → Relates kind l r
Relates-equal kind l r e = (omega (arith, ints, e), λ t. e)

-- where it isn't an equation, the order is enough
pub Relates-at_least : (kind : RowKind) (l r : ℤ) → is_equation kind ≡ false → r ≤ℤ l → Relates kind l r
Relates-at_least kind l r n h = (h, λ t. absurd (let q : true ≡ false = sym t ∙ n in cc))

one_if-pos : (b : Bool) → one_if b ≡ pos (cond b 1 0)
one_if-pos true = refl
one_if-pos false = refl

if_times : (b : Bool) (l : ℕ) → one_if b *ℤ pos l ≡ pos (cond b l 0)
if_times true l = same_value (times (nat 1) (nat l)) (nat l) (omega arith)
if_times false l = same_value (times (nat 0) (nat l)) (nat 0) (omega arith)

plus_none : (z : ℤ) (l : ℕ) → (z +ℤ pos 0 *ℤ pos l) ≡ z
plus_none z l = same_value (plus (var z) (times (nat 0) (nat l))) (var z) (omega arith)

none_plus_minus : (z : ℤ) (l : ℕ) → (pos 0 +ℤ neg_ℤ z *ℤ pos l) ≡ (pos 0 -ℤ z *ℤ pos l)
none_plus_minus z l =
    ap (λ (n : ℤ). pos 0 +ℤ n *ℤ pos l) (let e : neg_ℤ z ≡ pos 0 -ℤ z = omega (arith, ints) in e)
    ∙ same_value (plus (nat 0) (times (minus (nat 0) (var z)) (nat l))) (minus (nat 0) (times (var z) (nat l))) (omega arith)

none_plus_difference : (y z : ℤ) (l : ℕ) → (pos 0 +ℤ (y -ℤ z) *ℤ pos l) ≡ (y *ℤ pos l -ℤ z *ℤ pos l)
none_plus_difference y z l = same_value (plus (nat 0) (times (minus (var y) (var z)) (nat l))) (minus (times (var y) (nat l)) (times (var z) (nat l))) (omega arith)

-- the sum of what a row with one member counts: how many cables start there, ..
pub sum-starts : (cables : List Cable) (m : ℕ) → sum_int (λ (c : Cable). one_if (is_member (m ∷ []) c.from)) cables ≡ pos (starts_in cables m)
sum-starts cables m =
    sum_int-same (λ (c : Cable). one_if (is_member (m ∷ []) c.from)) (λ c. pos (cond (c.from == m) 1 0)) cables (λ c. ap one_if (member-one m c.from) ∙ one_if-pos (c.from == m))
    ∙ sum_int-pos (λ (c : Cable). cond (c.from == m) 1 0) cables

-- .. how many end there, ..
pub sum-ends : (cables : List Cable) (m : ℕ) → sum_int (λ (c : Cable). one_if (is_member (m ∷ []) c.to)) cables ≡ pos (ends_in cables m)
sum-ends cables m =
    sum_int-same (λ (c : Cable). one_if (is_member (m ∷ []) c.to)) (λ c. pos (cond (c.to == m) 1 0)) cables (λ c. ap one_if (member-one m c.to) ∙ one_if-pos (c.to == m))
    ∙ sum_int-pos (λ (c : Cable). cond (c.to == m) 1 0) cables

-- .. what those carry that start there, ..
sum-loads_out : (s : Site) (cables : List Cable) (m : ℕ) → sum_int (λ (c : Cable). one_if (is_member (m ∷ []) c.from) *ℤ pos (load s cables c.from)) cables
    ≡ pos (sum_by (λ (c : Cable). cond (c.from == m) (load s cables c.from) 0) cables)
sum-loads_out s cables m =
    sum_int-same (λ (c : Cable). one_if (is_member (m ∷ []) c.from) *ℤ pos (load s cables c.from)) (λ c. pos (cond (c.from == m) (load s cables c.from) 0)) cables
    (λ c. ap (λ b. one_if b *ℤ pos (load s cables c.from)) (member-one m c.from) ∙ if_times (c.from == m) (load s cables c.from))
    ∙ sum_int-pos (λ (c : Cable). cond (c.from == m) (load s cables c.from) 0) cables

-- .. and what those carry that end there
sum-loads_in : (s : Site) (cables : List Cable) (m : ℕ) → sum_int (λ (c : Cable). one_if (is_member (m ∷ []) c.to) *ℤ pos (load s cables c.from)) cables ≡ pos (load_into s cables m)
sum-loads_in s cables m =
    sum_int-same (λ (c : Cable). one_if (is_member (m ∷ []) c.to) *ℤ pos (load s cables c.from)) (λ c. pos (cond (c.to == m) (load s cables c.from) 0)) cables
    (λ c. ap (λ b. one_if b *ℤ pos (load s cables c.from)) (member-one m c.to) ∙ if_times (c.to == m) (load s cables c.from))
    ∙ sum_int-pos (λ (c : Cable). cond (c.to == m) (load s cables c.from) 0) cables

-- the negative of a sum
pub sum-negative : {X : Type 0} → (f : X → ℤ) (xs : List X) → sum_int (λ x. pos 0 -ℤ f x) xs ≡ (pos 0 -ℤ sum_int f xs)
sum-negative {X} f xs = sum_int-minus (λ (x : X). pos 0) f xs ∙ ap (λ (z : ℤ). z -ℤ sum_int f xs) (sum_int-zero xs)

-- the left side of a row over the cables of a legal layout
left-legal : (s : Site) (arcs : List Arc) (cables : List Cable) → AreArcs s arcs → IsLegal s cables
    → (row : Row) (on_cable : ℕ → ℕ → ℤ) → ((a p q : ℕ) → on_use row.kind row.members a p q ≡ on_cable p q)
    → left row arcs (map (flow_of s cables) arcs) ≡ sum_int (λ (c : Cable). on_cable c.from c.to +ℤ on_load row.kind row.members c.from c.to *ℤ pos (load s cables c.from)) cables
left-legal s arcs cables are g = left-over_cables s arcs cables are g.start g.candidate

-- one cable starts in each turbine
pub out-holds : (s : Site) (arcs : List Arc) (cables : List Cable) → AreArcs s arcs → IsLegal s cables → (m : ℕ) → IsTrue (is_turbine (kind_of s m)) → Holds s arcs (row_at Out m) cables
out-holds s arcs cables are g m t =
    let r = turbine_out s cables g m t in
    Relates-equal Out (left (row_at Out m) arcs (map (flow_of s cables) arcs)) (pos 1)
    (left-legal s arcs cables are g (row_at Out m) (λ p q. one_if (is_member (m ∷ []) p)) (λ a p q. refl)
    ∙ sum_int-same (λ (c : Cable). one_if (is_member (m ∷ []) c.from) +ℤ pos 0 *ℤ pos (load s cables c.from)) (λ c. one_if (is_member (m ∷ []) c.from)) cables
    (λ c. plus_none (one_if (is_member (m ∷ []) c.from)) (load s cables c.from))
    ∙ sum-starts cables m
    ∙ ap pos (starts_in-some cables g.start m r.0 r.1))

-- what leaves a turbine or a bend is its power and what comes to it
pub flow-holds : (s : Site) (arcs : List Arc) (cables : List Cable) → AreArcs s arcs → IsLegal s cables → (m : ℕ) → m < length s.points → (IsTrue (is_turbine (kind_of s m))) ⊎ (kind_of s m ≡ BendKind)
    → Holds s arcs (row_at Flow m) cables
flow-holds s arcs cables are g m l h =
    let sent = sent_on s cables g m l h in
    let outward = λ (c : Cable). one_if (is_member (m ∷ []) c.from) in
    let inward = λ (c : Cable). one_if (is_member (m ∷ []) c.to) in
    let over = λ (c : Cable). pos (load s cables c.from) in
    let sum : left (row_at Flow m) arcs (map (flow_of s cables) arcs) ≡ (sum_int (λ c. outward c *ℤ over c) cables -ℤ sum_int (λ c. inward c *ℤ over c) cables) =
    left-legal s arcs cables are g (row_at Flow m) (λ p q. pos 0) (λ a p q. refl)
    ∙ sum_int-same (λ c. pos 0 +ℤ (outward c -ℤ inward c) *ℤ over c) (λ c. outward c *ℤ over c -ℤ inward c *ℤ over c) cables (λ c. none_plus_difference (outward c) (inward c) (load s cables c.from))
    ∙ sum_int-minus (λ c. outward c *ℤ over c) (λ c. inward c *ℤ over c) cables in
    Relates-equal Flow (left (row_at Flow m) arcs (map (flow_of s cables) arcs)) (pos (sum_by (power_of s) (m ∷ [])))
    (omega (arith, ints, sum, sum-loads_out s cables m, sum-loads_in s cables m, sent))

-- no more cables end in a point than its inlet takes
pub inlet-holds : (s : Site) (arcs : List Arc) (cables : List Cable) → IsValid s → AreArcs s arcs → IsLegal s cables → (m : ℕ) → m < length s.points → Holds s arcs (row_at Inlet m) cables
inlet-holds s arcs cables v are g m l =
    let inward = λ (c : Cable). one_if (is_member (m ∷ []) c.to) in
    let negative : (c : Cable) → (neg_ℤ (inward c) +ℤ pos 0 *ℤ pos (load s cables c.from)) ≡ (pos 0 -ℤ inward c) =
    λ c. plus_none (neg_ℤ (inward c)) (load s cables c.from) ∙ (let e : neg_ℤ (inward c) ≡ (pos 0 -ℤ inward c) = minus_is (inward c) in e) in
    let sum : left (row_at Inlet m) arcs (map (flow_of s cables) arcs) ≡ (pos 0 -ℤ sum_int inward cables) =
    left-legal s arcs cables are g (row_at Inlet m) (λ p q. neg_ℤ (one_if (is_member (m ∷ []) q))) (λ a p q. refl)
    ∙ sum_int-same (λ c. neg_ℤ (inward c) +ℤ pos 0 *ℤ pos (load s cables c.from)) (λ c. pos 0 -ℤ inward c) cables negative
    ∙ sum-negative inward cables in
    let few = ends_in-limit s cables v g m l in
    Relates-at_least Inlet (left (row_at Inlet m) arcs (map (flow_of s cables) arcs)) (neg_ℤ (pos (sum_by (λ q. inlet_limit s.mode (kind_of s q)) (m ∷ [])))) refl
    (omega (arith, ints, sum, sum-ends cables m, few))
  where
    minus_is : (z : ℤ) → neg_ℤ z ≡ (pos 0 -ℤ z)
    minus_is z = omega (arith, ints)

-- as many cables start as end in a bend
pub bend-holds : (s : Site) (arcs : List Arc) (cables : List Cable) → AreArcs s arcs → IsLegal s cables → (m : ℕ) → m < length s.points → kind_of s m ≡ BendKind → Holds s arcs (row_at Bend m) cables
bend-holds s arcs cables are g m l k =
    let point = bend_point s m l k in
    let as_many : starts_in cables m ≡ ends_in cables m = (g.bend m).as_many point.0 point.1 point.2 in
    let outward = λ (c : Cable). one_if (is_member (m ∷ []) c.from) in
    let inward = λ (c : Cable). one_if (is_member (m ∷ []) c.to) in
    let sum : left (row_at Bend m) arcs (map (flow_of s cables) arcs) ≡ (sum_int outward cables -ℤ sum_int inward cables) =
    left-legal s arcs cables are g (row_at Bend m) (λ p q. one_if (is_member (m ∷ []) p) -ℤ one_if (is_member (m ∷ []) q)) (λ a p q. refl)
    ∙ sum_int-same (λ c. (outward c -ℤ inward c) +ℤ pos 0 *ℤ pos (load s cables c.from)) (λ c. outward c -ℤ inward c) cables (λ c. plus_none (outward c -ℤ inward c) (load s cables c.from))
    ∙ sum_int-minus outward inward cables in
    Relates-equal Bend (left (row_at Bend m) arcs (map (flow_of s cables) arcs)) (pos 0) (omega (arith, ints, sum, sum-starts cables m, sum-ends cables m, as_many))

-- no more comes to a substation than its power
pub power-holds : (s : Site) (arcs : List Arc) (cables : List Cable) → AreArcs s arcs → IsLegal s cables → (m : ℕ) → IsTrue (is_substation (kind_of s m)) → Holds s arcs (row_at Power m) cables
power-holds s arcs cables are g m h =
    let kind = substation_kind (kind_of s m) h in
    let most : load_into s cables m ≤ kind.1 = g.power m kind.0 kind.1 kind.2 in
    let limit : power_limit (kind_of s m) ≡ kind.1 = ap power_limit kind.2 in
    let inward = λ (c : Cable). one_if (is_member (m ∷ []) c.to) *ℤ pos (load s cables c.from) in
    let sum : left (row_at Power m) arcs (map (flow_of s cables) arcs) ≡ (pos 0 -ℤ sum_int inward cables) =
    left-legal s arcs cables are g (row_at Power m) (λ p q. pos 0) (λ a p q. refl)
    ∙ sum_int-same (λ (c : Cable). pos 0 +ℤ neg_ℤ (one_if (is_member (m ∷ []) c.to)) *ℤ pos (load s cables c.from)) (λ c. pos 0 -ℤ inward c) cables
    (λ c. none_plus_minus (one_if (is_member (m ∷ []) c.to)) (load s cables c.from))
    ∙ sum-negative inward cables in
    Relates-at_least Power (left (row_at Power m) arcs (map (flow_of s cables) arcs)) (neg_ℤ (pos (sum_by (λ q. power_limit (kind_of s q)) (m ∷ [])))) refl
    (omega (arith, ints, sum, sum-loads_in s cables m, most, limit))

-- a member stands at some place
member_place : (members : List ℕ) (n : ℕ) → is_member members n ≡ true → (i : ℕ) × (slice_get members i ≡ Some n)
member_place members n h =
    let r = list_any-place (λ m. m == n) members h in
    (r.0, r.2 ∙ ap Some (eqb-true r.1 n r.3))

-- at most one of arcs of which any two are incompatible is used
pub one-holds : (s : Site) (arcs : List Arc) (cables : List Cable) → IsLegal s cables → (members : List ℕ) → IsWellFormed s arcs (record { kind = One; members = members })
    → Holds s arcs (record { kind = One; members = members }) cables
one-holds s arcs cables g members formed =
    let row : Row = record { kind = One; members = members } in
    let counts : ℕ × Arc → Bool = λ x. is_member members x.0 && has_arc cables x.1 in
    let sum : left row arcs (map (flow_of s cables) arcs) ≡ (pos 0 -ℤ sum_int (λ (x : ℕ × Arc). pos (cond (counts x) 1 0)) (enumerate_from 0 arcs)) =
    left-by row (flow_of s cables) arcs
    ∙ sum_int-same (λ (x : ℕ × Arc). count_of row (x.0, (x.1, flow_of s cables x.1))) (λ x. pos 0 -ℤ pos (cond (counts x) 1 0)) (enumerate_from 0 arcs)
    (λ x. each (is_member members x.0) (has_arc cables x.1) (load s cables x.1.from))
    ∙ sum-negative (λ (x : ℕ × Arc). pos (cond (counts x) 1 0)) (enumerate_from 0 arcs) in
    let one = count_by-one counts (enumerate_from 0 arcs) alike in
    Relates-at_least One (left row arcs (map (flow_of s cables) arcs)) (neg_ℤ (pos 1)) refl
    (omega (arith, ints, sum, sum_int-pos (λ (x : ℕ × Arc). cond (counts x) 1 0) (enumerate_from 0 arcs), one))
  where
    each : (a b : Bool) (n : ℕ) → (neg_ℤ (one_if a) *ℤ pos (cond b 1 0) +ℤ pos 0 *ℤ pos (cond b n 0)) ≡ (pos 0 -ℤ pos (cond (a && b) 1 0))
    each true true n = same_value (plus (times (var (neg_ℤ (pos 1))) (nat 1)) (times (nat 0) (nat n))) (minus (nat 0) (nat 1)) (omega (arith, ints))
    each true false n = same_value (plus (times (var (neg_ℤ (pos 1))) (nat 0)) (times (nat 0) (nat 0))) (minus (nat 0) (nat 0)) (omega (arith, ints))
    each false true n = same_value (plus (times (var (neg_ℤ (pos 0))) (nat 1)) (times (nat 0) (nat n))) (minus (nat 0) (nat 0)) (omega (arith, ints))
    each false false n = same_value (plus (times (var (neg_ℤ (pos 0))) (nat 0)) (times (nat 0) (nat 0))) (minus (nat 0) (nat 0)) (omega (arith, ints))

    by_order : (k l : ℕ) (P : Type 0) → (k ≡ l → P) → (k < l → P) → (l < k → P) → P
    by_order k l P a b c = elim (eqb_tells k l) [ inl t ↦ a t.1 | inr t ↦ split (less k l t.1) ]
      where
        less : (k l : ℕ) → k ≢ l → (k < l) ⊎ (l < k)
        less k l n = grind arith

        split : (k < l) ⊎ (l < k) → P
        split h = elim h [ inl x ↦ b x | inr x ↦ c x ]

    alike : (i j : ℕ) (x y : ℕ × Arc) → slice_get (enumerate_from 0 arcs) i ≡ Some x → slice_get (enumerate_from 0 arcs) j ≡ Some y
        → (is_member members x.0 && has_arc cables x.1) ≡ true → (is_member members y.0 && has_arc cables y.1) ≡ true → i ≡ j
    alike i j x y e f t u =
        let a = slice_get-enumerate_from 0 arcs i x e in
        let b = slice_get-enumerate_from 0 arcs j y f in
        let i_is : x.0 ≡ i = a.0 ∙ (let q : 0 + i ≡ i = omega arith in q) in
        let j_is : y.0 ≡ j = b.0 ∙ (let q : 0 + j ≡ j = omega arith in q) in
        let p = both (is_member members x.0) (has_arc cables x.1) t in
        let q = both (is_member members y.0) (has_arc cables y.1) u in
        let k = member_place members x.0 p.0 in
        let l = member_place members y.0 q.0 in
        let first : slice_get arcs x.0 ≡ Some x.1 = ap (slice_get arcs) i_is ∙ a.1 in
        let second : slice_get arcs y.0 ≡ Some y.1 = ap (slice_get arcs) j_is ∙ b.1 in
        by_order k.0 l.0 (i ≡ j)
        (λ same. let z : Some x.0 ≡ Some y.0 = sym k.1 ∙ ap (slice_get members) same ∙ l.1 in let w : x.0 ≡ y.0 = cc in sym i_is ∙ w ∙ j_is)
        (λ lt. absurd (none_incompatible s cables g x.1 y.1 (cable_on cables x.1 p.1) (cable_on cables y.1 q.1) (formed Incompatible k.0 l.0 x.0 y.0 x.1 y.1 refl lt k.1 l.1 first second)))
        (λ gt. absurd (none_incompatible s cables g y.1 x.1 (cable_on cables y.1 q.1) (cable_on cables x.1 p.1) (formed Incompatible l.0 k.0 y.0 x.0 y.1 x.1 refl gt l.1 k.1 second first)))

-- the powers of a set without substations go over the cables that leave it
pub cut-holds : (s : Site) (arcs : List Arc) (cables : List Cable) → IsValid s → AreArcs s arcs → IsLegal s cables → (members : List ℕ) → IsWellFormed s arcs (record { kind = Cut; members = members })
    → Holds s arcs (record { kind = Cut; members = members }) cables
cut-holds s arcs cables v are g members formed =
    let row : Row = record { kind = Cut; members = members } in
    let most : ℕ = largest_capacity s in
    let power : ℕ = sum_by (power_of s) members in
    let number : ℕ = count_by (leaves members) cables in
    let sum : left row arcs (map (flow_of s cables) arcs) ≡ pos number =
    left-legal s arcs cables are g row (λ p q. one_if (is_member members p && not (is_member members q))) (λ a p q. refl)
    ∙ sum_int-same (λ (c : Cable). one_if (leaves members c) +ℤ pos 0 *ℤ pos (load s cables c.from)) (λ c. pos (cond (leaves members c) 1 0)) cables
    (λ c. plus_none (one_if (leaves members c)) (load s cables c.from) ∙ one_if-pos (leaves members c))
    ∙ sum_int-pos (λ (c : Cable). cond (leaves members c) 1 0) cables in
    let over = power-le-loads_out s cables members g (DifferentKeys-ascending members (λ i. formed Ascending i 0)) (λ i m. formed InRange i 0 m) (λ i m e. formed NoSubstation i 0 m e refl) in
    let loads = sum_by-le_on (λ c. cond (leaves members c) (load s cables c.from) 0) (λ c. most * cond (leaves members c) 1 0) cables
    (λ i c e. by_test (leaves members c) (load s cables c.from) most (load-most s cables g i c e)) in
    let times = sum_by-times most (λ c. cond (leaves members c) 1 0) cables in
    let enough : power ≤ most * number = omega (arith, over, loads, times) in
    let least : rounded_up power most ≤ number = ceiling-least power most number (largest_capacity-some s v) enough in
    Relates-at_least Cut (left row arcs (map (flow_of s cables) arcs)) (pos (rounded_up power most)) refl (omega (arith, ints, sum, least))
  where
    by_test : (b : Bool) (m n : ℕ) → m ≤ n → cond b m 0 ≤ n * cond b 1 0
    by_test true m n h = omega arith
    by_test false m n h = omega arith

-- each well-formed row holds of each legal layout
pub rows-hold : (s : Site) (arcs : List Arc) (cables : List Cable) (row : Row) → IsValid s → AreArcs s arcs → IsWellFormed s arcs row → IsLegal s cables → Holds s arcs row cables
rows-hold s arcs cables row v are formed g = by_kind row.kind row.members formed
  where
    turbine_or_bend : (k : Kind) → IsTrue (is_turbine k || is_bend k) → (IsTrue (is_turbine k)) ⊎ (k ≡ BendKind)
    turbine_or_bend (Turbine power) h = inl refl
    turbine_or_bend (Substation feeders power) h = absurd (cc)
    turbine_or_bend BendKind h = inr refl

    by_kind : (kind : RowKind) (members : List ℕ) → IsWellFormed s arcs (record { kind = kind; members = members }) → Holds s arcs (record { kind = kind; members = members }) cables
    by_kind Out members f =
        let one = one_element members ((f RightCount 0 0).0 refl) in
        subst (λ ms. Holds s arcs (record { kind = Out; members = ms }) cables) (sym one.1)
        (out-holds s arcs cables are g one.0 (f RightKind 0 0 one.0 (ap (λ ms. slice_get ms 0) one.1)))
    by_kind Flow members f =
        let one = one_element members ((f RightCount 0 0).0 refl) in
        let first : slice_get members 0 ≡ Some one.0 = ap (λ ms. slice_get ms 0) one.1 in
        subst (λ ms. Holds s arcs (record { kind = Flow; members = ms }) cables) (sym one.1)
        (flow-holds s arcs cables are g one.0 (f InRange 0 0 one.0 first) (turbine_or_bend (kind_of s one.0) (f RightKind 0 0 one.0 first)))
    by_kind Inlet members f =
        let one = one_element members ((f RightCount 0 0).0 refl) in
        subst (λ ms. Holds s arcs (record { kind = Inlet; members = ms }) cables) (sym one.1)
        (inlet-holds s arcs cables v are g one.0 (f InRange 0 0 one.0 (ap (λ ms. slice_get ms 0) one.1)))
    by_kind Bend members f =
        let one = one_element members ((f RightCount 0 0).0 refl) in
        let first : slice_get members 0 ≡ Some one.0 = ap (λ ms. slice_get ms 0) one.1 in
        subst (λ ms. Holds s arcs (record { kind = Bend; members = ms }) cables) (sym one.1)
        (bend-holds s arcs cables are g one.0 (f InRange 0 0 one.0 first) (bend_kind (kind_of s one.0) (f RightKind 0 0 one.0 first)))
    by_kind Power members f =
        let one = one_element members ((f RightCount 0 0).0 refl) in
        subst (λ ms. Holds s arcs (record { kind = Power; members = ms }) cables) (sym one.1)
        (power-holds s arcs cables are g one.0 (f RightKind 0 0 one.0 (ap (λ ms. slice_get ms 0) one.1)))
    by_kind One members f = one-holds s arcs cables g members f
    by_kind Cut members f = cut-holds s arcs cables v are g members f
