-- A legal layout costs at most the ceiling.
use Rattle.std.proofs.Common.{◌≡◌, ℕ, zero, suc, ◌+◌, ◌<◌, ◌≤◌, inl, inr, false, cond, List, [], ◌∷◌, map, length, slice_get, Some, option_map, refl, ap, sym, ◌∙◌, arith, eq-eqb}
use Rattle.std.specs.Prelude.{◌==◌}
use Rattle.std.specs.List.{enumerate_from, range_with_len}
use Rattle.std.proofs.lemmas.Option.{slice_get-map}
use Rattle.cable_definitions.specs.declared.cable.Cable.{Cable}
use Rattle.cable_definitions.specs.declared.cable.Arc.{Arc}
use Rattle.cable_definitions.specs.declared.site.CableType.{CableType}
use Rattle.cable_definitions.specs.declared.site.Point.{Point}
use Rattle.cable_definitions.specs.Site.{Site}
use Rattle.cable_definitions.specs.Arcs.{AreArcs, kind_of, kind_from, is_substation, cost_of, capacity_from, capacity_of}
use Rattle.cable_definitions.specs.Walk.{cable_out, load}
use Rattle.cable_definitions.specs.Layout.{IsCable, IsLegal, cost}
use Rattle.cable_definitions.specs.Tree.{greatest_of_types, greatest_out, ceiling}
use Rattle.number_laws.proofs.NatSums.{sum_by-le_on, sum_by-same_on}
use Rattle.number_laws.proofs.Keys.{value_at, sum_by-keys}
use Rattle.number_laws.proofs.Places.{slice_get-enumerate_from, sum_by-numbers}
use Rattle.layout_laws.proofs.Monotone.{cost_of-le}
use Rattle.layout_laws.proofs.Alike.{cable_out-from}
use Rattle.layout_laws.proofs.Walking.{Starts-from_out, out_cases}
use Rattle.layout_laws.proofs.Ending.{Starts-substation}
use Rattle.proof_laws.proofs.Lists.{some_at, fold_max-at, false_from}
use Rattle.proof_laws.proofs.Cables.{arc_of}

-- an element among the numbered elements
pub enumerate_from-at : {X : Type 0} → (xs : List X) (n i : ℕ) (x : X) → slice_get xs i ≡ Some x → slice_get (enumerate_from n xs) i ≡ Some (n + i, x)
enumerate_from-at [] n i x e = absurd (cc)
enumerate_from-at (y ∷ ys) n zero x e =
    let same : y ≡ x = cc in
    let number : n ≡ n + 0 = omega arith in
    λ i. Some (number i, same i)
enumerate_from-at (y ∷ ys) n (suc i) x e =
    let number : n + 1 + i ≡ n + suc i = omega arith in
    enumerate_from-at ys (n + 1) i x e ∙ (λ i. Some (number i, x))

-- a cable that its type bears costs at most the greatest of the types
pub cost_of-greatest : (s : Site) (a : Arc) (grade l : ℕ) → grade < length s.types → l ≤ capacity_of s grade → cost_of s a.from a.to grade l ≤ greatest_of_types s a
cost_of-greatest s a grade l within enough =
    let t = some_at s.types grade within in
    let capacity : capacity_of s grade ≡ t.0.capacity = ap capacity_from t.1 in
    let place = enumerate_from-at (map (λ (t : CableType). t.capacity) s.types) 0 grade t.0.capacity (slice_get-map (λ (t : CableType). t.capacity) s.types grade ∙ ap (option_map (λ (t : CableType). t.capacity)) t.1) in
    let most : cost_of s a.from a.to (0 + grade) t.0.capacity ≤ greatest_of_types s a =
    fold_max-at (λ (x : ℕ × ℕ). cost_of s a.from a.to x.0 x.1) 0 (enumerate_from 0 (map (λ (t : CableType). t.capacity) s.types)) grade (0 + grade, t.0.capacity) place in
    let number : cost_of s a.from a.to (0 + grade) t.0.capacity ≡ cost_of s a.from a.to grade t.0.capacity =
    ap (λ (k : ℕ). cost_of s a.from a.to k t.0.capacity) (let q : 0 + grade ≡ grade = omega arith in q) in
    let grown = cost_of-le s a.from a.to grade l t.0.capacity (omega (arith, enough, capacity)) in
    omega (arith, most, number, grown)

-- a cable of a legal layout costs at most the greatest cost out of its start
pub cable-cost-greatest : (s : Site) (arcs : List Arc) (cables : List Cable) → AreArcs s arcs → IsLegal s cables → (i : ℕ) (c : Cable) → IsCable cables i c
    → cost_of s c.from c.to c.grade (load s cables c.from) ≤ greatest_out s arcs c.from
cable-cost-greatest s arcs cables are g i c e =
    let r = arc_of s arcs cables are g.candidate i c e in
    let a = r.1 in
    let from : a.from ≡ c.from = r.3 in
    let to : a.to ≡ c.to = r.4 in
    let own = cost_of-greatest s a c.grade (load s cables c.from) ((g.range i).grade c e) (g.capacity c.from i c e refl) in
    let moved : cost_of s a.from a.to c.grade (load s cables c.from) ≡ cost_of s c.from c.to c.grade (load s cables c.from) =
    ap (λ (p : ℕ). cost_of s p a.to c.grade (load s cables c.from)) from ∙ ap (λ (q : ℕ). cost_of s c.from q c.grade (load s cables c.from)) to in
    let most = fold_max-at (λ (b : Arc). cond (b.from == c.from) (greatest_of_types s b) 0) 0 arcs r.0 a r.2 in
    let here : cond (a.from == c.from) (greatest_of_types s a) 0 ≡ greatest_of_types s a = rw (eq-eqb a.from c.from from) refl in
    omega (arith, own, moved, most, here)

-- a legal layout costs at most the ceiling
pub cost-ceiling : (s : Site) (arcs : List Arc) (cables : List Cable) → AreArcs s arcs → IsLegal s cables → cost s cables ≤ ceiling s arcs
cost-ceiling s arcs cables are g =
    let n : ℕ = length s.points in
    let most : ℕ → ℕ = λ p. greatest_out s arcs p in
    let at_point : ℕ → ℕ = λ p. cond (is_substation (kind_of s p)) 0 (most p) in
    let over_point : ℕ × Point → ℕ = λ x. cond (is_substation x.1.kind) 0 (most x.0) in
    let each = sum_by-le_on (λ (c : Cable). cost_of s c.from c.to c.grade (load s cables c.from)) (λ c. most c.from) cables (λ i c e. cable-cost-greatest s arcs cables are g i c e) in
    let keys = sum_by-keys (λ (c : Cable). c.from) (λ (c : Cable). most c.from) n cables g.start (λ i c e. (g.range i).from c e) in
    let points = sum_by-le_on (λ (p : ℕ). value_at (λ (c : Cable). most c.from) (cable_out cables p)) at_point (range_with_len 0 n) (λ i p e. at_start p) in
    let kinds = sum_by-same_on over_point (λ (x : ℕ × Point). at_point x.0) (enumerate_from 0 s.points) (λ i x e.
    let r = slice_get-enumerate_from 0 s.points i x e in
    let number : x.0 ≡ i = omega (arith, r.0) in
    ap (λ o. cond (is_substation (kind_from o)) 0 (most x.0)) (sym r.1 ∙ ap (slice_get s.points) (sym number))) in
    omega (arith, each, keys, points, kinds, sum_by-numbers at_point 0 s.points)
  where
    at_start : (p : ℕ) → value_at (λ (c : Cable). greatest_out s arcs c.from) (cable_out cables p) ≤ cond (is_substation (kind_of s p)) 0 (greatest_out s arcs p)
    at_start p = elim (out_cases cables p) [
      | inl n ↦ rw n (omega arith)
      | inr w ↦
          let free : is_substation (kind_of s p) ≡ false =
          false_from (is_substation (kind_of s p)) (λ t. Starts-substation s cables g.candidate p t (Starts-from_out cables p w.0 w.1)) in
          let from : greatest_out s arcs w.0.from ≡ greatest_out s arcs p = ap (greatest_out s arcs) (cable_out-from cables p w.0 w.1) in
          rw (w.1, free) (omega (arith, from))
    ]
