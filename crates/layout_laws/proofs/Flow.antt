-- Visits and loads point by point: what passes a point starts there or comes over a cable that ends there.
use Rattle.std.proofs.Common.{◌≡◌, ℕ, zero, suc, ◌+◌, ◌*◌, ◌≤◌, inl, inr, Bool, true, false, cond, eqb, List, sum_by, count_by, Option, Some, None, slice_get, refl, ap, sym, ◌∙◌, arith, eq-eqb, ne_eqb}
use Rattle.std.specs.Prelude.{◌==◌}
use Rattle.std.specs.List.{enumerate_from}
use Rattle.std.proofs.lemmas.Bool.Decides.{eqb_tells}
use Rattle.std.proofs.lemmas.List.Sums.{sum_by-cons, sum_by-le-sum_by}
use Rattle.cable_definitions.specs.declared.cable.Cable.{Cable}
use Rattle.cable_definitions.specs.declared.site.Point.{Point}
use Rattle.cable_definitions.specs.Site.{Site}
use Rattle.cable_definitions.specs.Arcs.{kind_from, power_of_kind, power_of}
use Rattle.cable_definitions.specs.Walk.{cable_out, walk, walk_end, most_steps, passes, load, load_into}
use Rattle.number_laws.proofs.NatSums.{sum_by-same, sum_by-plus, sum_by-times, sum_by-exchange, sum_by-cond, cond-times}
use Rattle.number_laws.proofs.Keys.{value_at, sum_by-one_key}
use Rattle.number_laws.proofs.Places.{sum_by-place}
use Rattle.layout_laws.specs.Alike.{StartsDiffer}
use Rattle.layout_laws.specs.Visits.{visits, visits_into, WalksEnd}
use Rattle.layout_laws.proofs.Walking.{none-from_Starts, passes-start, out_cases, walk-ended, passes-visits}

eqb_swapped : (a b : ℕ) → eqb a b ≡ eqb b a
eqb_swapped a b = elim (eqb_tells a b) [
  | inl t ↦ t.0 ∙ sym (eq-eqb b a (sym t.1))
  | inr t ↦ t.0 ∙ sym (ne_eqb b a (λ e. t.1 (sym e)))
]

cond_swapped : (a b : Bool) (n : ℕ) → cond a (cond b n 0) 0 ≡ cond b (cond a n 0) 0
cond_swapped true b n = refl
cond_swapped false true n = refl
cond_swapped false false n = refl

cond_plus : (b : Bool) (m n : ℕ) → cond b (m + n) 0 ≡ cond b m 0 + cond b n 0
cond_plus true m n = refl
cond_plus false m n = refl

-- the cables out of t into p
starts_into : (cables : List Cable) (p t : ℕ) → StartsDiffer cables
    → sum_by (λ c. cond (c.to == p) (cond (t == c.from) 1 0) 0) cables ≡ value_at (λ (c : Cable). cond (c.to == p) 1 0) (cable_out cables t)
starts_into cables p t d =
    sum_by-same
    (λ (c : Cable). cond (c.to == p) (cond (t == c.from) 1 0) 0)
    (λ (c : Cable). cond (c.from == t) (cond (c.to == p) 1 0) 0)
    cables
    (λ c. ap (λ b. cond (c.to == p) (cond b 1 0) 0) (eqb_swapped t c.from) ∙ cond_swapped (c.to == p) (c.from == t) 1)
    ∙ sum_by-one_key (λ (c : Cable). c.from) (λ (c : Cable). cond (c.to == p) 1 0) cables t d

-- a walk that doesn't leave t comes to t alone
visits-stay : (cables : List Cable) (p steps t : ℕ) → cable_out cables t ≡ None → visits cables p steps t ≡ cond (t == p) 1 0
visits-stay cables p zero t n = omega arith
visits-stay cables p (suc steps) t n = rw n (omega arith)

-- a walk that goes on from t comes to t, and to what it comes to from there
visits-move : (cables : List Cable) (p steps t : ℕ) (d : Cable) → cable_out cables t ≡ Some d → visits cables p (suc steps) t ≡ cond (t == p) 1 0 + visits cables p steps d.to
visits-move cables p steps t d e = rw e (sum_by-cons (λ q. cond (q == p) 1 0) t (walk steps cables d.to))

flow_stay : (cables : List Cable) → StartsDiffer cables → (p steps t : ℕ) → cable_out cables t ≡ None
    → visits cables p (suc steps) t ≡ cond (t == p) 1 0 + visits_into cables p steps t
flow_stay cables d p steps t n =
    let none : value_at (λ (c : Cable). cond (c.to == p) 1 0) (cable_out cables t) ≡ 0 = rw n refl in
    let same = sum_by-same (λ (c : Cable). cond (c.to == p) (visits cables c.from steps t) 0) (λ c. cond (c.to == p) (cond (t == c.from) 1 0) 0) cables
    (λ c. ap (λ (k : ℕ). cond (c.to == p) k 0) (visits-stay cables c.from steps t n)) in
    omega (arith, visits-stay cables p (suc steps) t n, same, starts_into cables p t d, none)

-- a walk that comes to p starts there or comes over a cable that ends there
pub visits-flow : (cables : List Cable) → StartsDiffer cables → (p steps t : ℕ) → visits cables p (suc steps) t ≡ cond (t == p) 1 0 + visits_into cables p steps t
visits-flow cables d p zero t = elim (out_cases cables t) [
  | inl n ↦ flow_stay cables d p 0 t n
  | inr w ↦
      let one : value_at (λ (c : Cable). cond (c.to == p) 1 0) (cable_out cables t) ≡ cond (w.0.to == p) 1 0 = rw w.1 refl in
      let same = sum_by-same (λ (c : Cable). cond (c.to == p) (visits cables c.from 0 t) 0) (λ c. cond (c.to == p) (cond (t == c.from) 1 0) 0) cables
      (λ c. ap (λ (k : ℕ). cond (c.to == p) k 0) (let e : visits cables c.from 0 t ≡ cond (t == c.from) 1 0 = omega arith in e)) in
      omega (arith, visits-move cables p 0 t w.0 w.1, same, starts_into cables p t d, one)
]
visits-flow cables d p (suc m) t = elim (out_cases cables t) [
  | inl n ↦ flow_stay cables d p (suc m) t n
  | inr w ↦
      let here = λ (c : Cable). cond (c.to == p) (cond (t == c.from) 1 0) 0 in
      let there = λ (c : Cable). cond (c.to == p) (visits cables c.from m w.0.to) 0 in
      let one : value_at (λ (c : Cable). cond (c.to == p) 1 0) (cable_out cables t) ≡ cond (w.0.to == p) 1 0 = rw w.1 refl in
      let same = sum_by-same (λ (c : Cable). cond (c.to == p) (visits cables c.from (suc m) t) 0) (λ c. here c + there c) cables
      (λ c. ap (λ (k : ℕ). cond (c.to == p) k 0) (visits-move cables c.from m t w.0 w.1) ∙ cond_plus (c.to == p) (cond (t == c.from) 1 0) (visits cables c.from m w.0.to)) in
      omega (
        arith,
        visits-move cables p (suc m) t w.0 w.1,
        visits-flow cables d p m w.0.to,
        same,
        sum_by-plus here there cables,
        starts_into cables p t d,
        one,
      )
]

times_cond : (b : Bool) (m n : ℕ) → m * cond b n 0 ≡ cond b (m * n) 0
times_cond true m n = refl
times_cond false m n = omega arith

-- what one turbine brings to p: it starts there or comes over a cable that ends there
pub passes-flow : (cables : List Cable) → StartsDiffer cables → (p t power : ℕ) → cable_out cables (walk_end most_steps cables t) ≡ None
    → cond (passes cables p t) power 0 ≡ cond (t == p) power 0 + sum_by (λ c. cond (c.to == p) (cond (passes cables c.from t) power 0) 0) cables
passes-flow cables d p t power e =
    let counted : (q : ℕ) → cond (passes cables q t) power 0 ≡ power * visits cables q most_steps t =
    λ q. cond-times (passes cables q t) power ∙ ap (λ (k : ℕ). power * k) (passes-visits cables q t e) in
    let last = ap (count_by (λ q. q == p)) (walk-ended cables t most_steps e) in
    let flow = ap (λ (k : ℕ). power * k) (sym last ∙ visits-flow cables d p most_steps t) in
    let each : (c : Cable) → power * cond (c.to == p) (visits cables c.from most_steps t) 0 ≡ cond (c.to == p) (cond (passes cables c.from t) power 0) 0 =
    λ c. times_cond (c.to == p) power (visits cables c.from most_steps t) ∙ ap (λ (k : ℕ). cond (c.to == p) k 0) (sym (counted c.from)) in
    omega (
      arith,
      counted p,
      flow,
      sum_by-times power (λ c. cond (c.to == p) (visits cables c.from most_steps t) 0) cables,
      sum_by-same (λ c. power * cond (c.to == p) (visits cables c.from most_steps t) 0) (λ c. cond (c.to == p) (cond (passes cables c.from t) power 0) 0) cables each,
      cond-times (t == p) power,
    )

-- the power of a point, as a sum over all points
pub power_of-sum : (s : Site) (p : ℕ) → sum_by (λ (x : ℕ × Point). cond (x.0 == p) (power_of_kind x.1.kind) 0) (enumerate_from 0 s.points) ≡ power_of s p
power_of-sum s p = sum_by-place (λ (point : Point). power_of_kind point.kind) s.points 0 p p (omega arith) ∙ own_power (slice_get s.points p)
  where
    own_power : (o : Option Point) → value_at (λ (point : Point). power_of_kind point.kind) o ≡ power_of_kind (kind_from o)
    own_power None = refl
    own_power (Some point) = refl

-- the load of p is its own power and the loads of the cables that end there
pub load-flow : (s : Site) (cables : List Cable) → StartsDiffer cables → WalksEnd cables → (p : ℕ) → load s cables p ≡ power_of s p + load_into s cables p
load-flow s cables d ends p =
    let points = enumerate_from 0 s.points in
    let brought = λ (q : ℕ) (x : ℕ × Point). cond (passes cables q x.0) (power_of_kind x.1.kind) 0 in
    let own = λ (x : ℕ × Point). cond (x.0 == p) (power_of_kind x.1.kind) 0 in
    let over = λ (x : ℕ × Point) (c : Cable). cond (c.to == p) (brought c.from x) 0 in
    let each = sum_by-same (brought p) (λ x. own x + sum_by (over x) cables) points
    (λ x. passes-flow cables d p x.0 (power_of_kind x.1.kind) (none-from_Starts cables (walk_end most_steps cables x.0) (ends x.0))) in
    let swapped = sum_by-same (λ c. sum_by (λ x. over x c) points) (λ c. cond (c.to == p) (load s cables c.from) 0) cables (λ c. sum_by-cond (c.to == p) (brought c.from) points) in
    omega (
      arith,
      each,
      sum_by-plus own (λ x. sum_by (over x) cables) points,
      sum_by-exchange over points cables,
      swapped,
      power_of-sum s p,
    )

-- the load of a point is at least the power of each point whose walk passes it
pub power_of-le-load : (s : Site) (cables : List Cable) (p t : ℕ) → passes cables p t ≡ true → power_of s t ≤ load s cables p
power_of-le-load s cables p t h =
    let one = λ (x : ℕ × Point). cond (x.0 == t) (power_of_kind x.1.kind) 0 in
    let all = λ (x : ℕ × Point). cond (passes cables p x.0) (power_of_kind x.1.kind) 0 in
    omega (arith, power_of-sum s t, sum_by-le-sum_by one all (enumerate_from 0 s.points) (λ x. each x.0 (power_of_kind x.1.kind)))
  where
    each : (q n : ℕ) → cond (q == t) n 0 ≤ cond (passes cables p q) n 0
    each q n = elim (eqb_tells q t) [
      | inl e ↦
          let passed : passes cables p q ≡ true = ap (passes cables p) e.1 ∙ h in
          rw (e.0, passed) (omega arith)
      | inr e ↦ rw e.0 (omega arith)
    ]

-- a cable out of a point carries at least the power of that point
pub power_of-le-own_load : (s : Site) (cables : List Cable) (p : ℕ) → power_of s p ≤ load s cables p
power_of-le-own_load s cables p = power_of-le-load s cables p p (passes-start cables p)
