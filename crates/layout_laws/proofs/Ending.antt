-- Walks under the rules of legal layouts: they end in substations, leave sets by cables, and bring something to each bend.
use Rattle.std.proofs.Common.{◌≡◌, ℕ, zero, suc, ◌+◌, ◌≤◌, ◌⊎◌, inl, inr, Bool, true, false, List, Option, Some, None, slice_get, get_or, IsTrue, IsSome, refl, ap, sym, ◌∙◌, subst, arith, eq-eqb, eqb-true}
use Rattle.std.specs.Prelude.{◌==◌}
use Rattle.std.proofs.lemmas.Option.{slice_get_within, get_or_from_slice_get}
use Rattle.cable_definitions.specs.declared.cable.Cable.{Cable}
use Rattle.cable_definitions.specs.declared.site.Kind.{Kind}
use Rattle.cable_definitions.specs.declared.site.Kind.TheVariants.{Turbine, Substation, Bend}
use Rattle.cable_definitions.specs.declared.site.Point.{Point}
use Rattle.cable_definitions.specs.Site.{Site, IsValid, IsKind}
use Rattle.cable_definitions.specs.Arcs.{IsPoint, IsCandidate, kind_of, kind_from, is_turbine, is_substation, power_of_kind, power_of}
use Rattle.cable_definitions.specs.Walk.{cable_out, walk_end, most_steps, passes, load, load_into, starts_in, ends_in}
use Rattle.cable_definitions.specs.Layout.{IsCable, Starts, KeepsCandidate, KeepsBend, KeepsEnd, IsLegal}
use Rattle.number_laws.proofs.NatSums.{count_by-at, count_by-place}
use Rattle.layout_laws.specs.Alike.{StartsDiffer}
use Rattle.layout_laws.specs.Visits.{WalksEnd, LeavesBy}
use Rattle.layout_laws.proofs.Alike.{cable_out-from, cable_out-place, cable_out-of}
use Rattle.layout_laws.proofs.Walking.{Starts-from_out, out_cases, walk_end-stays, walk_end-step, comes_to-from_end, passes-next, most_steps_is}
use Rattle.layout_laws.proofs.Flow.{load-flow, power_of-le-load}

-- a cable of the list is a candidate arc
pub candidate-out : (s : Site) (cables : List Cable) → ((i : ℕ) → KeepsCandidate s cables i) → (p : ℕ) (c : Cable) → cable_out cables p ≡ Some c → IsCandidate s c.from c.to
candidate-out s cables k p c e = let r = cable_out-place cables p c e in k r.0 c r.1

-- a substation starts no cable
pub Starts-substation : (s : Site) (cables : List Cable) → ((i : ℕ) → KeepsCandidate s cables i) → (p : ℕ) → IsTrue (is_substation (kind_of s p)) → ¬ (Starts cables p)
Starts-substation s cables k p h st = elim (out_cases cables p) [
  | inl n ↦ absurd (let g : IsSome {T = Cable} None = subst (λ (o : Option Cable). IsSome o) n st in cc)
  | inr w ↦
      let a = candidate-out s cables k p w.0 w.1 in
      let from : slice_get s.points p ≡ Some a.from = ap (slice_get s.points) (sym (cable_out-from cables p w.0 w.1)) ∙ a.from_is in
      a.no_substation (subst (λ (o : Option Point). IsTrue (is_substation (kind_from o))) from h)
]

-- where no cable is lost, each walk comes to a point that starts none
pub WalksEnd-from_rules : (s : Site) (cables : List Cable) → ((i : ℕ) → KeepsCandidate s cables i) → ((p : ℕ) → KeepsEnd s cables p) → WalksEnd cables
WalksEnd-from_rules s cables k ends t = elim (out_cases cables t) [
  | inl n ↦ λ st. absurd (let g : IsSome {T = Cable} None = subst (λ (o : Option Cable). IsSome o) (ap (cable_out cables) (walk_end-stays cables t most_steps n) ∙ n) st in cc)
  | inr w ↦ Starts-substation s cables k (walk_end most_steps cables t) (ends t (Starts-from_out cables t w.0 w.1))
]

-- the walks of a legal layout end
pub WalksEnd-legal : (s : Site) (cables : List Cable) → IsLegal s cables → WalksEnd cables
WalksEnd-legal s cables g = WalksEnd-from_rules s cables g.candidate g.ends

-- a walk that starts in a set and stands outside after some steps left it over a cable, where it stood before
crossing : (cables : List Cable) (inside : ℕ → Bool) (steps t : ℕ) → IsTrue (inside t) → ¬ (IsTrue (inside (walk_end steps cables t)))
    → (c : Cable) × (k : ℕ) × (cable_out cables c.from ≡ Some c) × (IsTrue (inside c.from)) × (¬ (IsTrue (inside c.to))) × (k ≤ steps) × (walk_end k cables t ≡ c.from)
crossing cables inside zero t h n = absurd (n h)
crossing cables inside (suc steps) t h n = elim (out_cases cables t) [
  | inl stay ↦ absurd (n (subst (λ (q : ℕ). IsTrue (inside q)) (sym (walk_end-stays cables t (suc steps) stay)) h))
  | inr w ↦
      let c = w.0 in
      let from : c.from ≡ t = cable_out-from cables t c w.1 in
      elim (is_or_not (inside c.to)) [
        | inl further ↦
            let r = crossing cables inside steps c.to further (λ g. n (subst (λ (q : ℕ). IsTrue (inside q)) (sym (walk_end-step cables t steps c w.1)) g)) in
            let k : r.1 ≤ steps = r.5 in
            (r.0, suc r.1, r.2, r.3, r.4, omega arith, walk_end-step cables t r.1 c w.1 ∙ r.6)
        | inr outside ↦ (c, 0, ap (cable_out cables) from ∙ w.1, subst (λ (q : ℕ). IsTrue (inside q)) (sym from) h, outside, omega arith, sym from)
      ]
]
  where
    is_or_not : (b : Bool) → (IsTrue b) ⊎ (¬ (IsTrue b))
    is_or_not true = inl refl
    is_or_not false = inr (λ e. cc)

-- a walk that starts in a set and ends outside leaves it over a cable
pub leaves-by : (cables : List Cable) (inside : ℕ → Bool) (t : ℕ) → IsTrue (inside t) → ¬ (IsTrue (inside (walk_end most_steps cables t))) → (c : Cable) × LeavesBy cables inside t c
leaves-by cables inside t h n =
    let r = crossing cables inside most_steps t h n in
    let place = cable_out-place cables r.0.from r.0 r.2 in
    (r.0, record { place = place.0; is_cable = place.1; from = r.3; to = r.4; passed = comes_to-from_end cables r.0.from most_steps t r.1 r.5 r.6 })

-- A turbine whose walk passes p.
abbrev FeedsFrom : Site → List Cable → ℕ → Type 0
FeedsFrom s cables p = (t : ℕ) × (IsTrue (is_turbine (kind_of s t))) × (IsTrue (passes cables p t))

-- a cable ends in a bend that starts one
cable_into-bend : (s : Site) (cables : List Cable) → ((p : ℕ) → KeepsBend s cables p) → (p : ℕ) (point : Point) → IsPoint s p point → point.kind ≡ Bend → Starts cables p
    → (i : ℕ) × (c : Cable) × (IsCable cables i c) × (c.to ≡ p)
cable_into-bend s cables bends p point is bend st = elim (out_cases cables p) [
  | inl n ↦ absurd (let g : IsSome {T = Cable} None = subst (λ (o : Option Cable). IsSome o) n st in cc)
  | inr w ↦
      let place = cable_out-place cables p w.0 w.1 in
      let some : 1 ≤ starts_in cables p = count_by-at (λ (c : Cable). c.from == p) cables place.0 w.0 place.1 (eq-eqb w.0.from p (cable_out-from cables p w.0 w.1)) in
      let same : starts_in cables p ≡ ends_in cables p = (bends p).as_many point is bend in
      let r = count_by-place (λ (c : Cable). c.to == p) cables (omega (arith, some, same)) in
      (r.0, r.1, r.2, eqb-true r.1.to p r.3)
]

-- back along the cables from a bend: each step is one more for the walk to go, so they come to a turbine
carried : (s : Site) (cables : List Cable) → IsLegal s cables → (room k p : ℕ) (point : Point) → k + room ≡ most_steps → IsPoint s p point → point.kind ≡ Bend
    → Starts cables p → Starts cables (walk_end k cables p) → FeedsFrom s cables p
carried s cables g zero k p point e is bend st far =
    let all : k ≡ most_steps = omega arith in
    absurd (WalksEnd-legal s cables g p (subst (λ (n : ℕ). Starts cables (walk_end n cables p)) all far))
carried s cables g (suc room) k p point e is bend st far =
    let r = cable_into-bend s cables g.bend p point is bend st in
    let c = r.1 in
    let out : cable_out cables c.from ≡ Some c = cable_out-of cables g.start r.0 c r.2 in
    let a = g.candidate r.0 c r.2 in
    let start : Starts cables c.from = Starts-from_out cables c.from c out in
    let step : walk_end (suc k) cables c.from ≡ walk_end k cables p = walk_end-step cables c.from k c out ∙ ap (walk_end k cables) r.3 in
    by_kind c out r.3 a a.from.kind refl
    (λ b. carried s cables g room (suc k) c.from a.from (omega arith) a.from_is b start (subst (λ (q : ℕ). Starts cables q) (sym step) far))
  where
    by_kind : (c : Cable) → cable_out cables c.from ≡ Some c → c.to ≡ p → (a : IsCandidate s c.from c.to) → (kind : Kind) → a.from.kind ≡ kind
        → (a.from.kind ≡ Bend → FeedsFrom s cables c.from) → FeedsFrom s cables p
    by_kind c out to a (Turbine power) kind f = (
      c.from,
      subst (λ (q : Option Point). IsTrue (is_turbine (kind_from q))) (sym a.from_is) (ap is_turbine kind),
      comes_to-from_end cables p most_steps c.from 1 (omega (arith, most_steps_is)) (walk_end-step cables c.from 0 c out ∙ to),
    )
    by_kind c out to a (Substation feeders power) kind f = absurd (a.no_substation (ap is_substation kind))
    by_kind c out to a Bend kind f =
        let t = f kind in
        (t.0, t.1, subst (λ (q : ℕ). passes cables q t.0 ≡ true) to (passes-next cables (WalksEnd-legal s cables g) t.0 c out t.2))

-- in a legal layout a turbine's walk passes each bend that starts a cable
pub bend-fed : (s : Site) (cables : List Cable) → IsLegal s cables → (p : ℕ) (point : Point) → IsPoint s p point → point.kind ≡ Bend → Starts cables p
    → (t : ℕ) × (IsTrue (is_turbine (kind_of s t))) × (IsTrue (passes cables p t))
bend-fed s cables g p point is bend st = carried s cables g most_steps 0 p point (omega arith) is bend st st

-- a turbine has some power
pub power_of-some : (s : Site) → IsValid s → (t : ℕ) → IsTrue (is_turbine (kind_of s t)) → 1 ≤ power_of s t
power_of-some s v t h = by_point (slice_get s.points t) refl h
  where
    by_kind : (kind : Kind) → IsKind kind → IsTrue (is_turbine kind) → 1 ≤ power_of_kind kind
    by_kind (Turbine power) k h = k.0
    by_kind (Substation feeders power) k h = absurd (cc)
    by_kind Bend k h = absurd (cc)

    by_point : (o : Option Point) → slice_get s.points t ≡ o → IsTrue (is_turbine (kind_from o)) → 1 ≤ power_of_kind (kind_from o)
    by_point None e h = absurd (cc)
    by_point (Some point) e h =
        let k : IsKind (get_or s.points t point).kind = v.kinds t point (slice_get_within s.points t point e) in
        by_kind point.kind (subst (λ (x : Point). IsKind x.kind) (get_or_from_slice_get s.points t point point e) k) h

-- in a legal layout of a valid site a cable out of a bend carries something
pub bend-carries : (s : Site) (cables : List Cable) → IsValid s → IsLegal s cables → (p : ℕ) (point : Point) → IsPoint s p point → point.kind ≡ Bend → Starts cables p
    → 1 ≤ load s cables p
bend-carries s cables v g p point is bend st =
    let t = bend-fed s cables g p point is bend st in
    omega (arith, power_of-some s v t.0 t.1, power_of-le-load s cables p t.0 t.2)

-- a substation feeds in nothing
pub power_of-substation : (s : Site) (p : ℕ) → IsTrue (is_substation (kind_of s p)) → power_of s p ≡ 0
power_of-substation s p h = by_kind (kind_of s p) h
  where
    by_kind : (kind : Kind) → IsTrue (is_substation kind) → power_of_kind kind ≡ 0
    by_kind (Turbine power) h = absurd (cc)
    by_kind (Substation feeders power) h = refl
    by_kind Bend h = refl

-- the loads of the cables into a substation are the powers of the turbines whose walk comes to it
pub load_into-substation : (s : Site) (cables : List Cable) → StartsDiffer cables → WalksEnd cables → (p : ℕ) → IsTrue (is_substation (kind_of s p)) → load_into s cables p ≡ load s cables p
load_into-substation s cables d ends p h = omega (arith, load-flow s cables d ends p, power_of-substation s p h)
