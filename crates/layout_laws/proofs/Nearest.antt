-- What every legal layout costs at least: the least cost out of each turbine.
use Rattle.std.proofs.Common.{◌≡◌, ℕ, suc, ◌+◌, ◌≤◌, inl, inr, List, [], ◌∷◌, length, sum, sum_by, slice_get, Option, Some, None, IsSome, IsTrue, refl, ap, sym, ◌∙◌, subst, arith, eq-eqb, eqb-true}
use Rattle.std.specs.Prelude.{◌==◌}
use Rattle.std.specs.List.{range_with_len}
use Rattle.std.proofs.lemmas.List.Sums.{sum_by-cons}
use Rattle.cable_definitions.specs.declared.cable.Cable.{Cable}
use Rattle.cable_definitions.specs.declared.site.Kind.{Kind}
use Rattle.cable_definitions.specs.declared.site.Kind.TheVariants.{Turbine, Substation, Bend}
use Rattle.cable_definitions.specs.declared.site.Point.{Point}
use Rattle.cable_definitions.specs.Site.{Site}
use Rattle.cable_definitions.specs.Arcs.{IsCandidate, kind_of, kind_from, is_turbine, cost_of}
use Rattle.cable_definitions.specs.Walk.{cable_out, load, starts_in}
use Rattle.cable_definitions.specs.Layout.{IsCable, Starts, IsLegal, cost, Least, HasNone}
use Rattle.cable_definitions.specs.Budget.{IsLeastOut, LeastOutAt, AreLeastOut, IsNearest}
use Rattle.number_laws.proofs.NatSums.{count_by-at}
use Rattle.number_laws.proofs.Keys.{value_at, sum_by-keys}
use Rattle.number_laws.proofs.Matches.{count_by-at_most_one}
use Rattle.layout_laws.proofs.Alike.{cable_out-from, cable_out-place}
use Rattle.layout_laws.proofs.Walking.{out_cases}
use Rattle.layout_laws.proofs.Monotone.{cable-le_least}

-- a cable out of a point where one starts
pub record IsOut (cables : List Cable) (p : ℕ) : Type 0 where
  pub cable : Cable
  pub place : ℕ
  pub first : cable_out cables p ≡ Some cable
  pub is_cable : IsCable cables place cable
  pub from : cable.from ≡ p

-- there is one
pub out-from_Starts : (cables : List Cable) (p : ℕ) → Starts cables p → IsOut cables p
out-from_Starts cables p h = elim (out_cases cables p) [
  | inl n ↦ absurd (let g : IsSome {T = Cable} None = subst (λ (o : Option Cable). IsSome o) n h in cc)
  | inr w ↦
      let r = cable_out-place cables p w.0 w.1 in
      record { cable = w.0; place = r.0; first = w.1; is_cable = r.1; from = cable_out-from cables p w.0 w.1 }
]

-- a turbine with no candidate arc leaves no legal layout
pub HasNone-no_arc : (s : Site) (p : ℕ) → IsTrue (is_turbine (kind_of s p)) → ((q : ℕ) → ¬ (IsCandidate s p q)) → HasNone s
HasNone-no_arc s p turbine none cables g =
    let o = out-from_Starts cables p (g.joined p turbine) in
    none o.cable.to (subst (λ (q : ℕ). IsCandidate s q o.cable.to) o.from (g.candidate o.place o.cable o.is_cable))

-- each turbine of a legal layout starts one cable
pub starts_in-turbine : (s : Site) (cables : List Cable) → IsLegal s cables → (p : ℕ) → IsTrue (is_turbine (kind_of s p)) → starts_in cables p ≡ 1
starts_in-turbine s cables g p turbine =
    let o = out-from_Starts cables p (g.joined p turbine) in
    let some = count_by-at (λ (c : Cable). c.from == p) cables o.place o.cable o.is_cable (eq-eqb o.cable.from p o.from) in
    let most = count_by-at_most_one (λ (c : Cable). c.from == p) cables
    (λ i j c d e f h u v. g.start j i d c f e h (eqb-true c.from p u ∙ sym (eqb-true d.from p v))) in
    omega (arith, some, most)

-- these are the points of the site from number p on
abbrev pub IsTail : Site → ℕ → List Point → Type 0
IsTail s p points = (i : ℕ) (x : Point) → slice_get points i ≡ Some x → slice_get s.points (p + i) ≡ Some x

-- the first of them is point p
pub kind_here : (s : Site) (p : ℕ) (x : Point) (points : List Point) → IsTail s p (x ∷ points) → kind_of s p ≡ x.kind
kind_here s p x points at = ap kind_from (ap (slice_get s.points) (let e : p ≡ p + 0 = omega arith in e) ∙ at 0 x refl)

-- the others are those from number p + 1 on
pub later_tail : (s : Site) (p : ℕ) (x : Point) (points : List Point) → IsTail s p (x ∷ points) → IsTail s (p + 1) points
later_tail s p x points at i y e = ap (slice_get s.points) (let n : p + 1 + i ≡ p + suc i = omega arith in n) ∙ at (suc i) y e

-- where each turbine's value is at least each least cost out of it, the sum of such costs is at most the sum of the values of all points
nearest-le_from : (s : Site) (value : ℕ → ℕ) → ((p least : ℕ) → IsTrue (is_turbine (kind_of s p)) → IsLeastOut s p least → least ≤ value p)
    → (p : ℕ) (points : List Point) (costs : List ℕ) → IsTail s p points
    → AreLeastOut s p points costs → sum costs ≤ sum_by value (range_with_len p (length points))
nearest-le_from s value h p [] [] at a = omega arith
nearest-le_from s value h p [] (cost ∷ costs) at a = absurd a
nearest-le_from s value h p (x ∷ points) costs at a =
    by x.kind (kind_here s p x points at) costs a (λ further b. nearest-le_from s value h (p + 1) points further (later_tail s p x points at) b)
  where
    by : (kind : Kind) → kind_of s p ≡ kind → (costs : List ℕ) → LeastOutAt s p kind costs (AreLeastOut s (p + 1) points)
        → ((further : List ℕ) → AreLeastOut s (p + 1) points further → sum further ≤ sum_by value (range_with_len (p + 1) (length points)))
        → sum costs ≤ sum_by value (range_with_len p (suc (length points)))
    by (Turbine power) e [] l rest = absurd l
    by (Turbine power) e (cost ∷ costs) l rest =
        let one : cost ≤ value p = h p cost (ap is_turbine e) l.0 in
        let others : sum costs ≤ sum_by value (range_with_len (p + 1) (length points)) = rest costs l.1 in
        omega (arith, sum_by-cons (λ (n : ℕ). n) cost costs, sum_by-cons value p (range_with_len (p + 1) (length points)), one, others)
    by (Substation feeders power) e costs l rest =
        let others : sum costs ≤ sum_by value (range_with_len (p + 1) (length points)) = rest costs l in
        omega (arith, sum_by-cons value p (range_with_len (p + 1) (length points)), others)
    by Bend e costs l rest =
        let others : sum costs ≤ sum_by value (range_with_len (p + 1) (length points)) = rest costs l in
        omega (arith, sum_by-cons value p (range_with_len (p + 1) (length points)), others)

-- every legal layout costs at least the sum of the least costs out of the turbines
pub Least-nearest : (s : Site) (total : ℕ) → IsNearest s total → Least s total
Least-nearest s total n cables g =
    let f = λ (c : Cable). cost_of s c.from c.to c.grade (load s cables c.from) in
    let value = λ (p : ℕ). value_at f (cable_out cables p) in
    let a : cost s cables ≡ sum_by value (range_with_len 0 (length s.points)) =
    sum_by-keys (λ (c : Cable). c.from) f (length s.points) cables g.start (λ i c e. (g.range i).from c e) in
    let b = nearest-le_from s value (λ p least turbine l.
    let o = out-from_Starts cables p (g.joined p turbine) in
    let same : f o.cable ≡ value p = ap (value_at f) (sym o.first) in
    let m = cable-le_least s cables g.range g.candidate g.capacity o.place o.cable o.is_cable least (subst (λ (q : ℕ). IsLeastOut s q least) (sym o.from) l) in
    subst (λ (k : ℕ). least ≤ k) same m) 0 s.points n.0 (λ i x e. ap (slice_get s.points) (let z : 0 + i ≡ i = omega arith in z) ∙ e) n.1 in
    let c : total ≡ sum n.0 = n.2 in
    omega (arith, a, b, c)
