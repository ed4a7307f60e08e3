-- The greatest costs of arcs, type by type, arc by arc and point by point.
use Rattle.std.proofs.Common.{◌≡◌, ◌≢◌, ℕ, zero, suc, ◌+◌, ◌<◌, ◌≤◌, cond, List, [], ◌∷◌, length, get_or, drop, map, fold, max, slice_get, Option, Some, None, refl, ap, sym, ◌∙◌, arith, eq-eqb, ne_eqb, sum_by}
use Rattle.std.specs.Prelude.{◌==◌}
use Rattle.std.specs.List.{enumerate_from}
use Rattle.std.specs.Ordering.{ord_max, nat_cmp}
use Rattle.std.proofs.Common.{rules}
use Rattle.std.proofs.lemmas.List.{at_drop_more, at_drop_all}
use Rattle.std.proofs.lemmas.List.Sums.{sum_by-cons}
use Rattle.std.proofs.lemmas.Option.{slice_get_within, get_or_from_slice_get}
use Rattle.cable_definitions.specs.declared.cable.Arc.{Arc}
use Rattle.cable_definitions.specs.declared.site.CableType.{CableType}
use Rattle.cable_definitions.specs.declared.site.Point.{Point}
use Rattle.cable_definitions.specs.Site.{Site}
use Rattle.cable_definitions.specs.Arcs.{kind_of, kind_from, is_substation, cost_of}
use Rattle.cable_definitions.specs.Tree.{greatest_of_types, greatest_out, ceiling}
use Rattle.candidate_cables.specs.Tables.{IsFirstFrom}

-- the greater of two numbers that were compared
pub ord_max-nat : (m n : ℕ) → ord_max nat_cmp m n ≡ max m n
ord_max-nat m n = search rules

-- the greater of two small numbers is small
pub max_small : (k m n most : ℕ) → k ≡ max m n → m ≤ most → n ≤ most → k ≤ most
max_small k m n most e h l = grind arith

-- the greater of a cost and that of the arc under a numbered type, at its capacity
abbrev pub with_type : Site → Arc → ℕ → ℕ × ℕ → ℕ
with_type s a most t = max most (cost_of s a.from a.to t.0 t.1)

-- the greatest of a cost and those under the types from grade on
abbrev pub types_from : Site → Arc → ℕ → ℕ → ℕ
types_from s a grade most = fold (with_type s a) most (enumerate_from grade (map (λ t. t.capacity) (drop grade s.types)))

-- one type more
pub types_more : (s : Site) (a : Arc) (grade most : ℕ) (d : CableType) → grade < length s.types
    → types_from s a (grade + 1) (max most (cost_of s a.from a.to grade (get_or s.types grade d).capacity)) ≡ types_from s a grade most
types_more s a grade most d l = sym (at_drop_more (λ (ts : List CableType). fold (with_type s a) most (enumerate_from grade (map (λ t. t.capacity) ts))) s.types grade d l)

-- all types
pub types_all : (s : Site) (a : Arc) (grade most : ℕ) → length s.types ≤ grade → types_from s a grade most ≡ most
types_all s a grade most l = at_drop_all (λ (ts : List CableType). fold (with_type s a) most (enumerate_from grade (map (λ t. t.capacity) ts))) s.types grade l

-- ---- arcs out of a point
-- the greater of a cost and that of an arc, where it starts in p
abbrev pub with_arc : Site → ℕ → ℕ → Arc → ℕ
with_arc s p most a = max most (cond (a.from == p) (greatest_of_types s a) 0)

max_zero : (n : ℕ) → max n 0 ≡ n
max_zero n = grind arith

-- an arc that starts elsewhere
arc_elsewhere : (s : Site) (p most : ℕ) (a : Arc) → a.from ≢ p → with_arc s p most a ≡ most
arc_elsewhere s p most a n = rw (ne_eqb a.from p n) (max_zero most)

-- an arc that starts there
arc_there : (s : Site) (p most : ℕ) (a : Arc) → a.from ≡ p → with_arc s p most a ≡ max most (greatest_of_types s a)
arc_there s p most a e = rw (eq-eqb a.from p e) refl

-- arcs that start elsewhere may be left out at the beginning
skipped : (s : Site) (p : ℕ) (n most : ℕ) (arcs : List Arc) → ((k : ℕ) (a : Arc) → k < n → slice_get arcs k ≡ Some a → a.from ≢ p) → fold (with_arc s p) most (drop n arcs) ≡ fold (with_arc s p) most arcs
skipped s p zero most arcs h = refl
skipped s p (suc n) most [] h = refl
skipped s p (suc n) most (a ∷ arcs) h =
    skipped s p n most arcs (λ k b l e. h (suc k) b (omega arith) e)
    ∙ ap (λ (m : ℕ). fold (with_arc s p) m arcs) (sym (arc_elsewhere s p most a (h 0 a (omega arith) refl)))

-- and at the end
ended : (s : Site) (p : ℕ) (n most : ℕ) (arcs : List Arc) → ((k : ℕ) (a : Arc) → n ≤ k → slice_get arcs k ≡ Some a → a.from ≢ p) → fold (with_arc s p) most (drop n arcs) ≡ most
ended s p zero most [] h = refl
ended s p zero most (a ∷ arcs) h =
    ap (λ (m : ℕ). fold (with_arc s p) m arcs) (arc_elsewhere s p most a (h 0 a (omega arith) refl))
    ∙ ended s p zero most arcs (λ k b l e. h (suc k) b (omega arith) e)
ended s p (suc n) most [] h = refl
ended s p (suc n) most (a ∷ arcs) h = ended s p n most arcs (λ k b l e. h (suc k) b (omega arith) e)

-- before the first arc out of p
pub arcs_begin : (s : Site) (arcs : List Arc) (p first : ℕ) → IsFirstFrom arcs p first → fold (with_arc s p) 0 (drop first arcs) ≡ greatest_out s arcs p
arcs_begin s arcs p first f = skipped s p first 0 arcs (λ k a l e same. omega (arith, f.earlier k a l e))

-- one arc more
pub arcs_more : (s : Site) (arcs : List Arc) (p first past number most cost : ℕ) (a : Arc) → IsFirstFrom arcs p first → IsFirstFrom arcs (p + 1) past → first ≤ number → number < past → slice_get arcs number ≡ Some a
    → cost ≡ greatest_of_types s a → fold (with_arc s p) (max most cost) (drop (number + 1) arcs) ≡ fold (with_arc s p) most (drop number arcs)
arcs_more s arcs p first past number most cost a f g le less e is =
    let within = slice_get_within arcs number a e in
    let from : a.from ≡ p = omega (arith, f.later number a le e, g.earlier number a less e) in
    let got = get_or_from_slice_get arcs number a a e in
    let here = at_drop_more (λ (xs : List Arc). fold (with_arc s p) most xs) arcs number a within in
    sym (here ∙ ap (λ (b : Arc). fold (with_arc s p) (with_arc s p most b) (drop (number + 1) arcs)) got
    ∙ ap (λ (m : ℕ). fold (with_arc s p) m (drop (number + 1) arcs)) (arc_there s p most a from ∙ ap (max most) (sym is)))

-- all arcs out of p
pub arcs_all : (s : Site) (arcs : List Arc) (p past number most : ℕ) → IsFirstFrom arcs (p + 1) past → past ≤ number → fold (with_arc s p) most (drop number arcs) ≡ most
arcs_all s arcs p past number most g le = ended s p number most arcs (λ k a l e same. omega (arith, g.later k a (omega arith) e))

-- ---- points
-- what a numbered point adds to the ceiling
abbrev pub share_of : Site → List Arc → ℕ × Point → ℕ
share_of s arcs point = cond (is_substation point.1.kind) 0 (greatest_out s arcs point.0)

-- a place of a list has an element
none_past : {X : Type 0} → (xs : List X) (i : ℕ) → i < length xs → slice_get xs i ≡ None → ⊥
none_past [] i l e = omega arith
none_past (x ∷ xs) zero l e = cc
none_past (x ∷ xs) (suc i) l e = none_past xs i (omega arith) e

-- one point more
pub points_more : (s : Site) (arcs : List Arc) (p total share : ℕ) → p < length s.points → share ≡ cond (is_substation (kind_of s p)) 0 (greatest_out s arcs p)
    → total + sum_by (share_of s arcs) (enumerate_from p (drop p s.points)) ≡ ceiling s arcs
    → total + share + sum_by (share_of s arcs) (enumerate_from (p + 1) (drop (p + 1) s.points)) ≡ ceiling s arcs
points_more s arcs p total share l e before = by (slice_get s.points p) refl
  where
    by : (o : Option Point) → slice_get s.points p ≡ o → total + share + sum_by (share_of s arcs) (enumerate_from (p + 1) (drop (p + 1) s.points)) ≡ ceiling s arcs
    by None f = absurd (none_past s.points p l f)
    by (Some point) f =
        let got = get_or_from_slice_get s.points p point point f in
        let here = at_drop_more (λ (xs : List Point). sum_by (share_of s arcs) (enumerate_from p xs)) s.points p point l in
        let same = ap (λ (x : Point). sum_by (share_of s arcs) ((p, x) ∷ enumerate_from (p + 1) (drop (p + 1) s.points))) got in
        let parts = sum_by-cons (share_of s arcs) (p, point) (enumerate_from (p + 1) (drop (p + 1) s.points)) in
        let kind : share ≡ share_of s arcs (p, point) = e ∙ ap (λ k. cond (is_substation k) 0 (greatest_out s arcs p)) (ap kind_from f) in
        omega (arith, before, here, same, parts, kind)

-- all points
pub points_all : (s : Site) (arcs : List Arc) (p total : ℕ) → length s.points ≤ p → total + sum_by (share_of s arcs) (enumerate_from p (drop p s.points)) ≡ ceiling s arcs → total ≡ ceiling s arcs
points_all s arcs p total l h = omega (arith, h, at_drop_all (λ (xs : List Point). sum_by (share_of s arcs) (enumerate_from p xs)) s.points p l)
