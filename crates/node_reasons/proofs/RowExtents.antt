-- The least and the greatest that a row counts, arc by arc and in all.
use Rattle.std.proofs.Common.{◌≡◌, ℕ, suc, ◌+◌, ◌*◌, ◌≤◌, List, [], ◌∷◌, ℤ, pos, negsuc, ◌+ℤ◌, ◌*ℤ◌, ◌≤ℤ◌, ◌<ℤ◌, to_z, of_z, inl, inr, ◌⊎◌, arith, refl, sym, ap, ◌∙◌, subst}
use Rattle.std.specs.Prelude.{IsTrue}
use Rattle.std.specs.Int.{w64}
use Rattle.std.proofs.Math.Nat.{mul-le-mul_left}
use Rattle.std.proofs.lemmas.Nat.{mul-le}
use Rattle.std.proofs.lemmas.Int.{ints, to_z-of_z}
use Rattle.cable_definitions.specs.declared.cable.Arc.{Arc}
use Rattle.cable_definitions.specs.declared.row.Mark.{Mark}
use Rattle.cable_definitions.specs.declared.row.Mark.TheVariants.{Free, Used, Unused}
use Rattle.cable_definitions.specs.declared.site.Kind.{Kind}
use Rattle.cable_definitions.specs.declared.site.Kind.TheVariants.{Turbine, Substation, Bend}
use Rattle.cable_definitions.specs.Site.{Site, IsValid}
use Rattle.cable_definitions.specs.Arcs.{IsCandidate, kind_of, kind_from, power_of_kind, largest_capacity}
use Rattle.cable_definitions.specs.Row.{Row, on_use, on_load, right, is_equation}
use Rattle.cable_definitions.specs.Choice.{Choice, NoCable, Carries, least_load, IsChoice, IsExtreme, AtMost, AtLeast, AreExtremes, IsSumOfExtremes}
use Rattle.cable_definitions.specs.Tree.{counted, CannotMeet}
use Rattle.number_laws.proofs.Ring.{var, nat, plus, times, same_value, at_most}
use Rattle.number_laws.proofs.Sums.{sum_int}
use Rattle.layout_laws.proofs.Typing.{some_bears}
use Rattle.proof_laws.proofs.Points.{largest_capacity-some, capacity-most}
use Rattle.node_reasons.specs.Extents.{used_value, IsExtremeUse, IsUpTo}

-- ---- one arc
-- more units of load count as more, where each counts as something
times_up : (v : ℤ) (a b : ℕ) → a ≤ b → pos 0 ≤ℤ v → (v *ℤ pos a) ≤ℤ (v *ℤ pos b)
times_up (pos k) a b h l = at_most (times (var (pos k)) (nat a)) (times (var (pos k)) (nat b)) (omega (arith, mul-le-mul_left k h))
times_up (negsuc k) a b h l = absurd (omega (arith, ints))

-- and as less, where each counts as less than nothing
times_down : (v : ℤ) (a b : ℕ) → a ≤ b → v <ℤ pos 0 → (v *ℤ pos b) ≤ℤ (v *ℤ pos a)
times_down (pos k) a b h l = absurd (omega (arith, ints))
times_down (negsuc k) a b h l = at_most (times (var (negsuc k)) (nat b)) (times (var (negsuc k)) (nat a)) (omega (arith, mul-le-mul_left (suc k) h))

-- a number in this range is passed on as it is
pub back : (z : ℤ) → IsUpTo 1000000000000000 z → to_z w64 (of_z w64 z) ≡ z
back z h = let a = h.below in let b = h.above in to_z-of_z w64 z (omega (arith, ints, a, b))

-- what the program counts a use at a load as
pub value_is : (u v : ℤ) (l : ℕ) (x y w : ℤ) → x ≡ u → y ≡ v → w ≡ pos l → IsUpTo 128 u → IsUpTo 128 v → l ≤ 10000
    → (to_z w64 (of_z w64 (to_z w64 (of_z w64 x) +ℤ to_z w64 (of_z w64 (to_z w64 (of_z w64 y) *ℤ to_z w64 (of_z w64 w))))) ≡ used_value u v l) × IsUpTo 2000000 (used_value u v l)
value_is u v l x y w e f g a b h =
    let small = product v b in
    let low = small.below in
    let high = small.above in
    let ua = a.below in
    let ub = a.above in
    let va = b.below in
    let vb = b.above in
    let one : u *ℤ pos 1 ≡ u = same_value (times (var u) (nat 1)) (var u) (omega arith) in
    let x_is : to_z w64 (of_z w64 x) ≡ u = ap (λ z. to_z w64 (of_z w64 z)) e ∙ back u (record { below = omega (arith, ints); above = omega (arith, ints) }) in
    let y_is : to_z w64 (of_z w64 y) ≡ v = ap (λ z. to_z w64 (of_z w64 z)) f ∙ back v (record { below = omega (arith, ints); above = omega (arith, ints) }) in
    let w_is : to_z w64 (of_z w64 w) ≡ pos l = ap (λ z. to_z w64 (of_z w64 z)) g ∙ back (pos l) (record { below = omega (arith, ints); above = omega (arith, ints) }) in
    let t_is : to_z w64 (of_z w64 (v *ℤ pos l)) ≡ v *ℤ pos l = back (v *ℤ pos l) (record { below = omega (arith, ints, low, high); above = omega (arith, ints, low, high) }) in
    let s_is : to_z w64 (of_z w64 (u +ℤ v *ℤ pos l)) ≡ u +ℤ v *ℤ pos l = back (u +ℤ v *ℤ pos l) (record { below = omega (arith, ints, low, high); above = omega (arith, ints, low, high) }) in (
      (λ i. to_z w64 (of_z w64 (x_is i +ℤ to_z w64 (of_z w64 (y_is i *ℤ w_is i)))))
          ∙ ap (λ z. to_z w64 (of_z w64 (u +ℤ z))) t_is
          ∙ s_is
          ∙ ap (λ z. z +ℤ v *ℤ pos l) (sym one),
      record { below = omega (arith, ints, one, low, high); above = omega (arith, ints, one, low, high) },
    )
  where
    product : (z : ℤ) → IsUpTo 128 z → IsUpTo 1280000 (z *ℤ pos l)
    product (pos k) r =
        let top = r.below in
        let k_small : k ≤ 128 = omega (arith, ints, top) in
        let m = mul-le k l 128 10000 k_small h in
        let at = same_value (times (var (pos k)) (nat l)) (nat (k * l)) (omega arith) in
        record { below = omega (arith, ints, m, at); above = omega (arith, ints, m, at) }
    product (negsuc k) r =
        let bottom = r.above in
        let k_small : suc k ≤ 128 = omega (arith, ints, bottom) in
        let m = mul-le (suc k) l 128 10000 k_small h in
        let at = same_value (plus (times (var (negsuc k)) (nat l)) (nat (suc k * l))) (nat 0) (omega arith) in
        record { below = omega (arith, ints, m, at); above = omega (arith, ints, m, at) }

-- so a use is extreme at one end of its loads
pub least_up : (u v : ℤ) (low high : ℕ) → low ≤ high → pos 0 ≤ℤ v → IsExtremeUse AtMost u v low high (used_value u v low)
least_up u v low high h p = record { at = low; at_least = omega arith; at_most = h; reached = refl; none_beyond = λ l a b. omega (arith, ints, times_up v low l a p) }

pub greatest_up : (u v : ℤ) (low high : ℕ) → low ≤ high → pos 0 ≤ℤ v → IsExtremeUse AtLeast u v low high (used_value u v high)
greatest_up u v low high h p = record { at = high; at_least = h; at_most = omega arith; reached = refl; none_beyond = λ l a b. omega (arith, ints, times_up v l high b p) }

pub least_down : (u v : ℤ) (low high : ℕ) → low ≤ high → v <ℤ pos 0 → IsExtremeUse AtMost u v low high (used_value u v high)
least_down u v low high h p = record { at = high; at_least = h; at_most = omega arith; reached = refl; none_beyond = λ l a b. omega (arith, ints, times_down v l high b p) }

pub greatest_down : (u v : ℤ) (low high : ℕ) → low ≤ high → v <ℤ pos 0 → IsExtremeUse AtLeast u v low high (used_value u v low)
greatest_down u v low high h p = record { at = low; at_least = omega arith; at_most = h; reached = refl; none_beyond = λ l a b. omega (arith, ints, times_down v low l a p) }

-- the least load of a candidate arc is borne
pub least_load-borne : (s : Site) → IsValid s → (p q : ℕ) → IsCandidate s p q → least_load (kind_of s p) ≤ largest_capacity s
least_load-borne s v p q c =
    let kind : kind_of s p ≡ c.from.kind = ap kind_from c.from_is in
    rw kind (by_kind c.from.kind c.bearable (largest_capacity-some s v))
  where
    by_kind : (k : Kind) → power_of_kind k ≤ largest_capacity s → 1 ≤ largest_capacity s → least_load k ≤ largest_capacity s
    by_kind (Turbine power) h g = h
    by_kind (Substation feeders power) h g = g
    by_kind Bend h g = g

-- an extreme of a use over its loads is one over the choices that a used mark leaves
pub extreme_of_used : (R : ℤ → ℤ → Type 0) (s : Site) → IsValid s → (row : Row) (n : ℕ) (a : Arc) (u v z : ℤ) → u ≡ on_use row.kind row.members n a.from a.to → v ≡ on_load row.kind row.members a.from a.to
    → IsExtremeUse R u v (least_load (kind_of s a.from)) (largest_capacity s) z → IsExtreme R s a Used (counted row n a) z
extreme_of_used R s valid row n a u v z e f x =
    let t = some_bears s x.at valid.some_types x.at_most in
    record {
      choice = Carries t.0 x.at;
      is_choice = ((λ q. cc), t.1.listed, x.at_least, t.1.enough);
      reached = x.reached ∙ value x.at;
      none_beyond = beyond;
    }
  where
    value : (l : ℕ) → used_value u v l ≡ counted row n a (Carries 0 l)
    value l = λ i. e i *ℤ pos 1 +ℤ f i *ℤ pos l

    beyond : (other : Choice) → IsChoice s a Used other → R z (counted row n a other)
    beyond NoCable h = absurd (h refl)
    beyond (Carries grade l) h = subst (R z) (value l) (x.none_beyond l h.2 (let m = capacity-most s grade in let k = h.3 in omega arith))

-- no cable counts as nothing
none_counts : (row : Row) (n : ℕ) (a : Arc) → pos 0 ≡ counted row n a NoCable
none_counts row n a = sym (same_value (plus (times (var (on_use row.kind row.members n a.from a.to)) (nat 0)) (times (var (on_load row.kind row.members a.from a.to)) (nat 0))) (nat 0) (omega arith))

-- a free mark leaves no cable too
pub extreme_of_free : (R : ℤ → ℤ → Type 0) → ((x : ℤ) → R x x) → ((x y z : ℤ) → R x y → R y z → R x z) → (s : Site) (row : Row) (n : ℕ) (a : Arc) (used z : ℤ) → IsExtreme R s a Used (counted row n a) used
    → ((z ≡ used) × R used (pos 0)) ⊎ ((z ≡ pos 0) × R (pos 0) used) → IsExtreme R s a Free (counted row n a) z
extreme_of_free R same trans s row n a used z x (inl (e, r)) = record {
  choice = x.choice;
  is_choice = loosened x.choice x.is_choice;
  reached = e ∙ x.reached;
  none_beyond = beyond;
}
  where
    loosened : (c : Choice) → IsChoice s a Used c → IsChoice s a Free c
    loosened NoCable h = absurd (h refl)
    loosened (Carries grade l) h = ((λ q. cc), h.1, h.2, h.3)

    beyond : (other : Choice) → IsChoice s a Free other → R z (counted row n a other)
    beyond NoCable h = subst (R z) (none_counts row n a) (subst (λ (y : ℤ). R y (pos 0)) (sym e) r)
    beyond (Carries grade l) h = subst (λ (y : ℤ). R y (counted row n a (Carries grade l))) (sym e) (x.none_beyond (Carries grade l) ((λ q. cc), h.1, h.2, h.3))
extreme_of_free R same trans s row n a used z x (inr (e, r)) = record {
  choice = NoCable;
  is_choice = λ q. cc;
  reached = e ∙ none_counts row n a;
  none_beyond = beyond;
}
  where
    beyond : (other : Choice) → IsChoice s a Free other → R z (counted row n a other)
    beyond NoCable h = subst (R z) (none_counts row n a) (subst (λ (y : ℤ). R y (pos 0)) (sym e) (same (pos 0)))
    beyond (Carries grade l) h = subst (λ (y : ℤ). R y (counted row n a (Carries grade l))) (sym e) (trans (pos 0) used (counted row n a (Carries grade l)) r (x.none_beyond (Carries grade l) ((λ q. cc), h.1, h.2, h.3)))

-- an unused mark leaves no cable alone
pub extreme_of_unused : (R : ℤ → ℤ → Type 0) → ((x : ℤ) → R x x) → (s : Site) (row : Row) (n : ℕ) (a : Arc) → IsExtreme R s a Unused (counted row n a) (pos 0)
extreme_of_unused R same s row n a = record {
  choice = NoCable;
  is_choice = λ q. cc;
  reached = none_counts row n a;
  none_beyond = beyond;
}
  where
    beyond : (other : Choice) → IsChoice s a Unused other → R (pos 0) (counted row n a other)
    beyond NoCable h = subst (R (pos 0)) (none_counts row n a) (same (pos 0))
    beyond (Carries grade l) h = absurd (h.0 refl)

-- ---- all arcs
-- sums of extremes are one, where a relation both ways is an equation
pub sum_same : (R : ℤ → ℤ → Type 0) → ((x y : ℤ) → R x y → R y x → x ≡ y) → (s : Site) (arcs : List Arc) (marks : List Mark) (f : ℕ → Arc → Choice → ℤ) (x y : ℤ) → IsSumOfExtremes R s arcs marks f x → IsSumOfExtremes R s arcs marks f y → x ≡ y
sum_same R anti s arcs marks f x y p q =
    let e = by_arcs 0 arcs marks p.extremes q.extremes p.are_extremes q.are_extremes in
    p.sum ∙ ap (sum_int (λ (w : ℤ). w)) e ∙ sym q.sum
  where
    by_arcs : (n : ℕ) (bs : List Arc) (ms : List Mark) (xs ys : List ℤ) → AreExtremes R s f n bs ms xs → AreExtremes R s f n bs ms ys → xs ≡ ys
    by_arcs n [] [] [] [] h k = refl
    by_arcs n [] [] [] (z ∷ ys) h k = absurd k
    by_arcs n [] [] (w ∷ xs) ys h k = absurd h
    by_arcs n [] (m ∷ ms) xs ys h k = absurd h
    by_arcs n (b ∷ bs) [] xs ys h k = absurd h
    by_arcs n (b ∷ bs) (m ∷ ms) [] ys h k = absurd h
    by_arcs n (b ∷ bs) (m ∷ ms) (w ∷ xs) [] h k = absurd k
    by_arcs n (b ∷ bs) (m ∷ ms) (w ∷ xs) (z ∷ ys) h k =
        let left : R w z = subst (R w) (sym k.0.reached) (h.0.none_beyond k.0.choice k.0.is_choice) in
        let right_way : R z w = subst (R z) (sym h.0.reached) (k.0.none_beyond h.0.choice h.0.is_choice) in
        let here : w ≡ z = anti w z left right_way in
        let rest : xs ≡ ys = by_arcs (n + 1) bs ms xs ys h.1 k.1 in
        λ i. here i ∷ rest i

-- a small number is in the range of those that are passed on
pub wider : (z : ℤ) → IsUpTo 2000000 z → IsUpTo 1000000000000000 z
wider z h = let a = h.below in let b = h.above in record { below = omega (arith, ints, a, b); above = omega (arith, ints, a, b) }

-- ---- rows that can't be met
same_least : (x y : ℤ) → AtMost x y → AtMost y x → x ≡ y
same_least x y h k = omega (arith, ints)

same_greatest : (x y : ℤ) → AtLeast x y → AtLeast y x → x ≡ y
same_greatest x y h k = omega (arith, ints)

-- the greatest is below the right side
pub cannot_above : (s : Site) (arcs : List Arc) (marks : List Mark) (row : Row) (greatest r : ℤ) → IsSumOfExtremes AtLeast s arcs marks (counted row) greatest → r ≡ right s row.kind row.members → greatest <ℤ r
    → CannotMeet s arcs marks row
cannot_above s arcs marks row greatest r g e h = inl (greatest, g, subst (λ (z : ℤ). greatest <ℤ z) e h)

-- the least is above the right side of an equation
pub cannot_below : (s : Site) (arcs : List Arc) (marks : List Mark) (row : Row) (least r : ℤ) → IsSumOfExtremes AtMost s arcs marks (counted row) least → r ≡ right s row.kind row.members → IsTrue (is_equation row.kind) → r <ℤ least
    → CannotMeet s arcs marks row
cannot_below s arcs marks row least r l e q h = inr (q, (least, l, subst (λ (z : ℤ). z <ℤ least) e h))

-- neither is so
pub can_meet : (s : Site) (arcs : List Arc) (marks : List Mark) (row : Row) (least greatest r : ℤ) → IsSumOfExtremes AtMost s arcs marks (counted row) least → IsSumOfExtremes AtLeast s arcs marks (counted row) greatest
    → r ≡ right s row.kind row.members → r ≤ℤ greatest → (IsTrue (is_equation row.kind) → least ≤ℤ r) → ¬ (CannotMeet s arcs marks row)
can_meet s arcs marks row least greatest r l g e h k (inl (z, x, lt)) =
    let same : z ≡ greatest = sum_same AtLeast same_greatest s arcs marks (counted row) z greatest x g in
    omega (arith, ints, same, e, lt, h)
can_meet s arcs marks row least greatest r l g e h k (inr (q, (z, x, lt))) =
    let same : z ≡ least = sum_same AtMost same_least s arcs marks (counted row) z least x l in
    let m = k q in
    omega (arith, ints, same, e, lt, m)
