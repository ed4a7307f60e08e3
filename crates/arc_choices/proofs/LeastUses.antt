-- The least that the uses of an arc leave of their costs: load by load, type by type, and by its mark.
use Rattle.std.proofs.Common.{◌≡◌, ℕ, suc, ◌+◌, ◌*◌, ◌^◌, ◌≤◌, ◌<◌, inl, inr, ◌⊎◌, ℤ, pos, negsuc, ◌-ℤ◌, ◌*ℤ◌, ◌≤ℤ◌, nat_abs, to_z, of_z, FitsSigned, List, Option, Some, None, slice_get, length, below_more, refl, ap, sym, ◌∙◌, subst, arith}
use Rattle.std.specs.Int.{int_min, w128}
use Rattle.std.proofs.lemmas.Nat.{mul-le}
use Rattle.std.proofs.lemmas.Int.{ints, int_min_is, by_lt_z, to_z-of_z}
use Rattle.cable_definitions.specs.declared.cable.Arc.{Arc}
use Rattle.cable_definitions.specs.declared.site.CableType.{CableType}
use Rattle.cable_definitions.specs.declared.site.Version.{Version}
use Rattle.cable_definitions.specs.declared.site.Version.TheVariants.{One, Two}
use Rattle.cable_definitions.specs.declared.row.Mark.{Mark}
use Rattle.cable_definitions.specs.declared.row.Mark.TheVariants.{Free, Used}
use Rattle.cable_definitions.specs.Site.{Site, IsValid, version_number, latest_version}
use Rattle.cable_definitions.specs.Arcs.{AreArcs, IsCandidate, cost_of, cost_by, cost_from, capacity_of, capacity_from, kind_of, length_between, charge_of}
use Rattle.cable_definitions.specs.Choice.{Choice, NoCable, Carries, least_load, IsChoice, IsExtreme, AtMost}
use Rattle.number_laws.proofs.Ring.{var, nat, plus, minus, times, same_value}
use Rattle.site_model.specs.Best.{most_cost}
use Rattle.site_model.proofs.Costs.{type_at}
use Rattle.site_model.proofs.Nearest.{cost_small}
use Rattle.layout_laws.proofs.Typing.{all-at}
use Rattle.proof_laws.proofs.Decided.{arc_choice}
use Rattle.candidate_cables.specs.Listing.{IsArc}
use Rattle.arc_choices.specs.Least.{left_over, IsBestLoad, IsLeastOfType, IsLeastOfTypes, IsLeastOfTypesBelow, lesser_left}

-- ---- a cost does not depend on the load
-- the version that is read is the first
first_version : (v : Version) → version_number v ≤ latest_version → v ≡ One
first_version One h = refl
first_version Two h = absurd (omega arith)

-- without loss a cable costs the same at each load
lossless : (metres : ℕ) (t : CableType) (low high charge : ℕ) → t.loss ≡ 0 → cost_by metres t low charge ≡ cost_by metres t high charge
lossless metres t low high charge e = at low ∙ sym (at high)
  where
    at : (load : ℕ) → cost_by metres t load charge ≡ metres * t.price + charge
    at load =
        let none : metres * (t.price + 0 * load * load) + charge ≡ metres * t.price + charge = omega arith in
        ap (λ (loss : ℕ). metres * (t.price + loss * load * load) + charge) e ∙ none

-- in a valid site a cost is the same at each load
pub cost_of-same : (s : Site) (p q grade low high : ℕ) → IsValid s → cost_of s p q grade low ≡ cost_of s p q grade high
cost_of-same s p q grade low high v = by (slice_get s.types grade) refl
  where
    by : (o : Option CableType) → slice_get s.types grade ≡ o → cost_from s p q o low ≡ cost_from s p q o high
    by None e = refl
    by (Some t) e = lossless (length_between (slice_get s.points p) (slice_get s.points q)) t low high (charge_of s p q) ((type_at s grade t v e).no_loss (first_version s.version v.version))

-- a listed arc has its length and its charge
pub is_arc : (s : Site) (arcs : List Arc) (n : ℕ) (a : Arc) → AreArcs s arcs → slice_get arcs n ≡ Some a → IsArc s a
is_arc s arcs n a h e = record {
  candidate = all-at (λ (x : Arc). IsCandidate s x.from x.to) arcs n a h.candidates e;
  metres = all-at (λ (x : Arc). x.length ≡ length_between (slice_get s.points x.from) (slice_get s.points x.to)) arcs n a h.lengths e;
  charged = all-at (λ (x : Arc). x.charge ≡ charge_of s x.from x.to) arcs n a h.charges e;
}

-- its cost by these
pub cost_by_arc : (s : Site) (a : Arc) (grade load : ℕ) (t : CableType) → IsArc s a → slice_get s.types grade ≡ Some t → cost_of s a.from a.to grade load ≡ cost_by a.length t load a.charge
cost_by_arc s a grade load t h e =
    let metres = sym h.metres in
    let charged = sym h.charged in
    ap (λ (o : Option CableType). cost_from s a.from a.to o load) e ∙ (λ i. cost_by (metres i) t load (charged i))

-- ---- the loads of one type
-- the load that counts the most leaves the least of a type's cost
pub best_of_type : (s : Site) (a : Arc) (u w : ℤ) (grade least load capacity cost : ℕ) (left : ℤ) → IsValid s → least ≡ least_load (kind_of s a.from) → grade < length s.types → capacity ≡ capacity_of s grade
    → cost ≡ cost_of s a.from a.to grade load → left ≡ (pos (2 ^ 20 * cost) -ℤ u *ℤ pos 1) -ℤ w *ℤ pos load → IsBestLoad least capacity w load → IsLeastOfType s a u w grade left
best_of_type s a u w grade least load capacity cost left v e listed c f g b = record {
  load = load;
  is_choice = ((λ q. cc), listed, omega (arith, e, b.at_least), omega (arith, c, b.at_most));
  reached = g ∙ ap (λ (n : ℕ). (pos (2 ^ 20 * n) -ℤ u *ℤ pos 1) -ℤ w *ℤ pos load) f;
  none_below = λ other h.
      let more = b.none_above other (omega (arith, e, h.2)) (omega (arith, c, h.3)) in
      let same = ap (λ (n : ℕ). pos (2 ^ 20 * n)) (f ∙ cost_of-same s a.from a.to grade load other v) in
      below (pos (2 ^ 20 * cost)) (pos (2 ^ 20 * cost_of s a.from a.to grade other)) (u *ℤ pos 1) (w *ℤ pos load) (w *ℤ pos other) left g same more;
}
  where
    below : (x y z most part left : ℤ) → left ≡ (x -ℤ z) -ℤ most → x ≡ y → part ≤ℤ most → left ≤ℤ ((y -ℤ z) -ℤ part)
    below x y z most part left g same more = omega (arith, ints)

-- ---- the types
-- a type that doesn't bear the least load changes nothing
pub type_unborne : (s : Site) (a : Arc) (u w : ℤ) (grade load : ℕ) (least : Option ℤ) → load ≡ least_load (kind_of s a.from) → capacity_of s grade < load
    → IsLeastOfTypesBelow s a u w grade least → IsLeastOfTypesBelow s a u w (grade + 1) least
type_unborne s a u w grade load None e n h = λ other high l. below_more (λ (g : ℕ). (high : ℕ) → ¬ (IsChoice s a Used (Carries g high))) grade (λ g k high. h g high k) (λ high k. omega (arith, e, n, k.2, k.3)) other l high
type_unborne s a u w grade load (Some least) e n h = record {
  grade = h.grade;
  load = h.load;
  is_choice = h.is_choice;
  reached = h.reached;
  none_below = λ other high l. below_more (λ (g : ℕ). (high : ℕ) → IsChoice s a Used (Carries g high) → least ≤ℤ left_over s a u w (Carries g high)) grade (λ g k high. h.none_below g high k) (λ high k. absurd (omega (arith, e, n, k.2, k.3))) other l high;
}

-- the lesser is one of two numbers, and is at most each
lesser_cases : (x y : ℤ) → ((int_min x y ≡ x) × (x ≤ℤ y)) ⊎ ((int_min x y ≡ y) × (y ≤ℤ x))
lesser_cases x y = by_lt_z x y (λ lt. inl (omega (arith, ints, int_min_is x y), omega (arith, ints))) (λ ge. inr (omega (arith, ints, int_min_is x y), ge))

-- one type more
pub type_more : (s : Site) (a : Arc) (u w : ℤ) (grade : ℕ) (least : Option ℤ) (left : ℤ) → IsLeastOfType s a u w grade left → IsLeastOfTypesBelow s a u w grade least
    → IsLeastOfTypes s a u w (grade + 1) (lesser_left least left)
type_more s a u w grade None left t h = record {
  grade = grade;
  load = t.load;
  is_choice = t.is_choice;
  reached = t.reached;
  none_below = λ other high l. below_more (λ (g : ℕ). (high : ℕ) → IsChoice s a Used (Carries g high) → left ≤ℤ left_over s a u w (Carries g high)) grade (λ g k high c. absurd (h g high k c)) t.none_below other l high;
}
type_more s a u w grade (Some least) left t h = by (lesser_cases least left)
  where
    below : (z : ℤ) → z ≤ℤ least → z ≤ℤ left → (other high : ℕ) → other < grade + 1 → IsChoice s a Used (Carries other high) → z ≤ℤ left_over s a u w (Carries other high)
    below z p q other high l =
        below_more (λ (g : ℕ). (high : ℕ) → IsChoice s a Used (Carries g high) → z ≤ℤ left_over s a u w (Carries g high)) grade
        (λ g k high c. at_least z least (left_over s a u w (Carries g high)) p (h.none_below g high k c)) (λ high c. at_least z left (left_over s a u w (Carries grade high)) q (t.none_below high c)) other l high
      where
        at_least : (x y z : ℤ) → x ≤ℤ y → y ≤ℤ z → x ≤ℤ z
        at_least x y z h k = omega (arith, ints)

    by : ((int_min least left ≡ least) × (least ≤ℤ left)) ⊎ ((int_min least left ≡ left) × (left ≤ℤ least)) → IsLeastOfTypes s a u w (grade + 1) (int_min least left)
    by (inl (e, k)) = record {
      grade = h.grade;
      load = h.load;
      is_choice = h.is_choice;
      reached = e ∙ h.reached;
      none_below = below (int_min least left) (omega (arith, ints, e)) (omega (arith, ints, e, k));
    }
    by (inr (e, k)) = record {
      grade = grade;
      load = t.load;
      is_choice = t.is_choice;
      reached = e ∙ t.reached;
      none_below = below (int_min least left) (omega (arith, ints, e, k)) (omega (arith, ints, e));
    }

-- all types: the least is that of the choices that use the arc
pub types_all : (s : Site) (a : Arc) (u w : ℤ) (bound : ℕ) (least : ℤ) → length s.types ≤ bound → IsLeastOfTypes s a u w bound least → IsExtreme AtMost s a Used (left_over s a u w) least
types_all s a u w bound least l h = record { choice = Carries h.grade h.load; is_choice = h.is_choice; reached = h.reached; none_beyond = beyond }
  where
    beyond : (other : Choice) → IsChoice s a Used other → least ≤ℤ left_over s a u w other
    beyond NoCable n = absurd (n refl)
    beyond (Carries grade high) c = h.none_below grade high (omega (arith, l, c.1)) c

-- there is such a choice of a candidate arc
pub types_none : (s : Site) (a : Arc) (u w : ℤ) (bound : ℕ) → IsValid s → IsCandidate s a.from a.to → length s.types ≤ bound → IsLeastOfTypesBelow s a u w bound None → ⊥
types_none s a u w bound v candidate l h = let c = arc_choice s v a candidate in h c.0 c.1 (omega (arith, l, c.2.1)) c.2

-- ---- the marks
-- no cable leaves nothing
none_left : (s : Site) (a : Arc) (u w : ℤ) → pos 0 ≡ left_over s a u w NoCable
none_left s a u w = same_value (nat 0) (minus (minus (nat 0) (times (var u) (nat 0))) (times (var w) (nat 0))) (omega arith)

-- a free arc leaves the lesser of that and of the least use
pub free_left : (s : Site) (a : Arc) (u w used : ℤ) → IsExtreme AtMost s a Used (left_over s a u w) used → IsExtreme AtMost s a Free (left_over s a u w) (int_min used (pos 0))
free_left s a u w used h = by (lesser_cases used (pos 0))
  where
    loosened : (c : Choice) → IsChoice s a Used c → IsChoice s a Free c
    loosened NoCable h = absurd (h refl)
    loosened (Carries grade load) h = ((λ q. cc), h.1, h.2, h.3)

    beyond : (z : ℤ) → z ≤ℤ used → z ≤ℤ pos 0 → (other : Choice) → IsChoice s a Free other → z ≤ℤ left_over s a u w other
    beyond z p q NoCable k = subst (λ (y : ℤ). z ≤ℤ y) (none_left s a u w) q
    beyond z p q (Carries grade load) k = at_least z used (left_over s a u w (Carries grade load)) p (h.none_beyond (Carries grade load) ((λ q. cc), k.1, k.2, k.3))
      where
        at_least : (x y z : ℤ) → x ≤ℤ y → y ≤ℤ z → x ≤ℤ z
        at_least x y z h k = omega (arith, ints)

    by : ((int_min used (pos 0) ≡ used) × (used ≤ℤ pos 0)) ⊎ ((int_min used (pos 0) ≡ pos 0) × (pos 0 ≤ℤ used)) → IsExtreme AtMost s a Free (left_over s a u w) (int_min used (pos 0))
    by (inl (e, k)) = record { choice = h.choice; is_choice = loosened h.choice h.is_choice; reached = e ∙ h.reached; none_beyond = beyond (int_min used (pos 0)) (omega (arith, ints, e)) (omega (arith, ints, e, k)) }
    by (inr (e, k)) = record { choice = NoCable; is_choice = λ q. cc; reached = e ∙ none_left s a u w; none_beyond = beyond (int_min used (pos 0)) (omega (arith, ints, e, k)) (omega (arith, ints, e)) }

-- ---- how much is left
-- what the load counts as is small
load_small : (w : ℤ) (load : ℕ) → nat_abs w ≤ 2 ^ 86 → load ≤ 10000 → nat_abs (w *ℤ pos load) ≤ 2 ^ 86 * 10000
load_small (pos k) load h l =
    let k_small : k ≤ 2 ^ 86 = omega (arith, ints, h) in
    let m = mul-le k load (2 ^ 86) 10000 k_small l in
    let at = same_value (times (var (pos k)) (nat load)) (nat (k * load)) (omega arith) in
    omega (arith, ints, m, at)
load_small (negsuc k) load h l =
    let k_small : suc k ≤ 2 ^ 86 = omega (arith, ints, h) in
    let m = mul-le (suc k) load (2 ^ 86) 10000 k_small l in
    let at = same_value (plus (times (var (negsuc k)) (nat load)) (nat (suc k * load))) (nat 0) (omega arith) in
    omega (arith, ints, m, at)

-- what is left of a cost is small
pub left_small : (cost load : ℕ) (u w : ℤ) → cost ≤ most_cost → load ≤ 10000 → nat_abs u ≤ 2 ^ 86 → nat_abs w ≤ 2 ^ 86 → nat_abs ((pos (2 ^ 20 * cost) -ℤ u *ℤ pos 1) -ℤ w *ℤ pos load) ≤ 10 ^ 30
left_small cost load u w c l h k =
    let one : u *ℤ pos 1 ≡ u = same_value (times (var u) (nat 1)) (var u) (omega arith) in
    by (u *ℤ pos 1) (w *ℤ pos load) (subst (λ (z : ℤ). nat_abs z ≤ 2 ^ 86) (sym one) h) (load_small w load k l)
  where
    by : (x y : ℤ) → nat_abs x ≤ 2 ^ 86 → nat_abs y ≤ 2 ^ 86 * 10000 → nat_abs ((pos (2 ^ 20 * cost) -ℤ x) -ℤ y) ≤ 10 ^ 30
    by x y p q = omega (arith, ints)

-- what a choice leaves is small
choice_small : (s : Site) (a : Arc) (mark : Mark) (u w : ℤ) (choice : Choice) → IsValid s → IsChoice s a mark choice → nat_abs u ≤ 2 ^ 86 → nat_abs w ≤ 2 ^ 86 → nat_abs (left_over s a u w choice) ≤ 10 ^ 30
choice_small s a mark u w NoCable v c h k = let e = none_left s a u w in omega (arith, ints, e)
choice_small s a mark u w (Carries grade load) v c h k =
    left_small (cost_of s a.from a.to grade load) load u w (cost_small s a.from a.to grade load v (record { listed = c.1; enough = c.3 })) (by (slice_get s.types grade) refl c.3) h k
  where
    by : (o : Option CableType) → slice_get s.types grade ≡ o → load ≤ capacity_from o → load ≤ 10000
    by None e l = omega arith
    by (Some t) e l = omega (arith, l, (type_at s grade t v e).capacity)

-- an extreme of what choices leave is small
pub extreme_small : (s : Site) (a : Arc) (mark : Mark) (u w z : ℤ) → IsValid s → nat_abs u ≤ 2 ^ 86 → nat_abs w ≤ 2 ^ 86 → IsExtreme AtMost s a mark (left_over s a u w) z → nat_abs z ≤ 10 ^ 30
extreme_small s a mark u w z v h k x = subst (λ (y : ℤ). nat_abs y ≤ 10 ^ 30) (sym x.reached) (choice_small s a mark u w x.choice v x.is_choice h k)

-- ---- numbers as the program keeps them
-- a number of 128 bits that is read again
abbrev Kept : ℤ → ℤ
Kept z = to_z w128 (of_z w128 z)

-- a small number fits
small_fits : (z : ℤ) → nat_abs z ≤ 10 ^ 30 → FitsSigned w128 z
small_fits z h = omega (arith, ints)

-- a small number is kept as it is
pub kept : (z : ℤ) → nat_abs z ≤ 10 ^ 30 → Kept z ≡ z
kept z h = to_z-of_z w128 z (small_fits z h)

-- what the program leaves of a cost
pub left_read : (cost load : ℕ) (u w x y : ℤ) → x ≡ pos cost → y ≡ pos load → cost ≤ most_cost → load ≤ 10000 → nat_abs u ≤ 2 ^ 86 → nat_abs w ≤ 2 ^ 86
    → (Kept (Kept (pos 1048576 *ℤ Kept x) -ℤ Kept u) -ℤ Kept (Kept w *ℤ Kept y)) ≡ ((pos (2 ^ 20 * cost) -ℤ u *ℤ pos 1) -ℤ w *ℤ pos load)
left_read cost load u w x y e f c l h k =
    let x_is : Kept x ≡ pos cost = ap Kept e ∙ kept (pos cost) (omega (arith, ints)) in
    let y_is : Kept y ≡ pos load = ap Kept f ∙ kept (pos load) (omega (arith, ints)) in
    let u_is : Kept u ≡ u = kept u (omega arith) in
    let w_is : Kept w ≡ w = kept w (omega arith) in
    let cost_is : Kept (pos 1048576 *ℤ pos cost) ≡ pos (2 ^ 20 * cost) = kept (pos (2 ^ 20 * cost)) (omega (arith, ints)) in
    let one : u *ℤ pos 1 ≡ u = same_value (times (var u) (nat 1)) (var u) (omega arith) in
    let use_is : Kept (pos (2 ^ 20 * cost) -ℤ u) ≡ (pos (2 ^ 20 * cost) -ℤ u) = kept (pos (2 ^ 20 * cost) -ℤ u) (omega (arith, ints)) in
    let load_is : Kept (w *ℤ pos load) ≡ w *ℤ pos load = kept (w *ℤ pos load) (let m = load_small w load k l in omega (arith, m)) in
    (λ i. Kept (Kept (pos 1048576 *ℤ x_is i) -ℤ u_is i) -ℤ Kept (w_is i *ℤ y_is i))
    ∙ (λ i. Kept (cost_is i -ℤ u) -ℤ load_is i)
    ∙ (λ i. use_is i -ℤ w *ℤ pos load)
    ∙ ap (λ (z : ℤ). (pos (2 ^ 20 * cost) -ℤ z) -ℤ w *ℤ pos load) (sym one)

-- it fits
pub left_fits : (cost load : ℕ) (u w z : ℤ) → z ≡ ((pos (2 ^ 20 * cost) -ℤ u *ℤ pos 1) -ℤ w *ℤ pos load) → cost ≤ most_cost → load ≤ 10000 → nat_abs u ≤ 2 ^ 86 → nat_abs w ≤ 2 ^ 86 → FitsSigned w128 z
left_fits cost load u w z e c l h k = subst (FitsSigned w128) (sym e) (small_fits _ (left_small cost load u w c l h k))

-- an extreme at numbers that were read again is one at the numbers
pub extreme_read : (s : Site) (a : Arc) (mark : Mark) (u w z : ℤ) → FitsSigned w128 u → FitsSigned w128 w → IsExtreme AtMost s a mark (left_over s a (Kept u) (Kept w)) z → IsExtreme AtMost s a mark (left_over s a u w) z
extreme_read s a mark u w z h k x =
    subst (λ (y : ℤ). IsExtreme AtMost s a mark (left_over s a u y) z) (to_z-of_z w128 w k)
    (subst (λ (y : ℤ). IsExtreme AtMost s a mark (left_over s a y (Kept w)) z) (to_z-of_z w128 u h) x)

-- the same of the least of types
pub below_read : (s : Site) (a : Arc) (u w : ℤ) (bound : ℕ) (least : Option ℤ) → FitsSigned w128 u → FitsSigned w128 w → IsLeastOfTypesBelow s a (Kept u) (Kept w) bound least → IsLeastOfTypesBelow s a u w bound least
below_read s a u w bound least h k x =
    subst (λ (y : ℤ). IsLeastOfTypesBelow s a u y bound least) (to_z-of_z w128 w k)
    (subst (λ (y : ℤ). IsLeastOfTypesBelow s a y (Kept w) bound least) (to_z-of_z w128 u h) x)
