-- How many cables start and end in a point of a legal layout, what they carry, and how much a cable may carry.
use Rattle.std.proofs.Common.{◌≡◌, ◌≢◌, ℕ, zero, suc, ◌+◌, ◌<◌, ◌≤◌, ◌⊎◌, inl, inr, cond, List, length, slice_get, Some, None, Option, is_some, sum_by, refl, ap, sym, ◌∙◌, arith, eqb-true, ne_eqb}
use Rattle.std.specs.Prelude.{◌==◌, IsTrue}
use Rattle.std.specs.List.{range_with_len}
use Rattle.std.proofs.lemmas.List.Sums.{sum_by-cons, sum_by-le-sum_by}
use Rattle.cable_definitions.specs.declared.cable.Cable.{Cable}
use Rattle.cable_definitions.specs.declared.site.Kind.{Kind}
use Rattle.cable_definitions.specs.declared.site.Kind.TheVariants.{Turbine, Substation, Bend}
use Rattle.cable_definitions.specs.declared.site.Mode.{Mode}
use Rattle.cable_definitions.specs.declared.site.Mode.TheVariants.{Tree, Strings}
use Rattle.cable_definitions.specs.declared.site.Point.{Point}
use Rattle.cable_definitions.specs.declared.site.CableType.{CableType}
use Rattle.cable_definitions.specs.Site.{Site, IsValid, IsCableType}
use Rattle.cable_definitions.specs.Arcs.{IsPoint, kind_of, kind_from, is_turbine, is_substation, is_bend, power_of, power_of_kind, capacity_of, capacity_from, largest_capacity}
use Rattle.cable_definitions.specs.Walk.{cable_out, load, load_into, starts_in, ends_in}
use Rattle.cable_definitions.specs.Layout.{IsCable, IsLegal}
use Rattle.cable_definitions.specs.Row.{inlet_limit}
use Rattle.number_laws.proofs.NatSums.{sum_by-same_on, sum_by-zeros, sum_by-plus, sum_by-one_of, count_by-at}
use Rattle.number_laws.proofs.Keys.{value_at, sum_by-one_key, sum_by-keys}
use Rattle.layout_laws.specs.Alike.{StartsDiffer}
use Rattle.layout_laws.proofs.Alike.{cable_out-from}
use Rattle.layout_laws.proofs.Walking.{out_cases}
use Rattle.layout_laws.proofs.Flow.{load-flow}
use Rattle.layout_laws.proofs.Ending.{WalksEnd-legal, candidate-out}
use Rattle.layout_laws.proofs.Typing.{all-at}
use Rattle.proof_laws.proofs.Lists.{some_at, true_or_false, fold_max-at}

-- where starts differ, one cable starts in a point or none
pub starts_in-out : (cables : List Cable) → StartsDiffer cables → (p : ℕ) → starts_in cables p ≡ value_at (λ (c : Cable). 1) (cable_out cables p)
starts_in-out cables d p = sum_by-one_key (λ (c : Cable). c.from) (λ c. 1) cables p d

-- none starts where there is no first cable
pub starts_in-none : (cables : List Cable) → StartsDiffer cables → (p : ℕ) → cable_out cables p ≡ None → starts_in cables p ≡ 0
starts_in-none cables d p e = starts_in-out cables d p ∙ ap (value_at (λ (c : Cable). 1)) e

-- one starts where there is a first cable
pub starts_in-some : (cables : List Cable) → StartsDiffer cables → (p : ℕ) (c : Cable) → cable_out cables p ≡ Some c → starts_in cables p ≡ 1
starts_in-some cables d p c e = starts_in-out cables d p ∙ ap (value_at (λ (c : Cable). 1)) e

-- what the cables out of p carry where there is none
pub load_out-none : (s : Site) (cables : List Cable) → StartsDiffer cables → (p : ℕ) → cable_out cables p ≡ None
    → sum_by (λ (c : Cable). cond (c.from == p) (load s cables c.from) 0) cables ≡ 0
load_out-none s cables d p e = sum_by-one_key (λ (c : Cable). c.from) (λ (c : Cable). load s cables c.from) cables p d ∙ ap (value_at (λ (c : Cable). load s cables c.from)) e

-- and where there is one
pub load_out-some : (s : Site) (cables : List Cable) → StartsDiffer cables → (p : ℕ) (c : Cable) → cable_out cables p ≡ Some c
    → sum_by (λ (c : Cable). cond (c.from == p) (load s cables c.from) 0) cables ≡ load s cables p
load_out-some s cables d p c e =
    sum_by-one_key (λ (c : Cable). c.from) (λ (c : Cable). load s cables c.from) cables p d
    ∙ ap (value_at (λ (c : Cable). load s cables c.from)) e
    ∙ ap (load s cables) (cable_out-from cables p c e)

-- nothing comes into a point in which no cable ends
pub load_into-none : (s : Site) (cables : List Cable) (p : ℕ) → ends_in cables p ≡ 0 → load_into s cables p ≡ 0
load_into-none s cables p e =
    sum_by-same_on (λ (c : Cable). cond (c.to == p) (load s cables c.from) 0) (λ c. 0) cables (λ i c h. elim (true_or_false (c.to == p)) [
      | inl t ↦ absurd (let l : 1 ≤ ends_in cables p = count_by-at (λ (c : Cable). c.to == p) cables i c h t in omega arith)
      | inr t ↦ rw t refl
    ])
    ∙ sum_by-zeros cables

-- a bend is a listed point
pub bend_point : (s : Site) (p : ℕ) → p < length s.points → kind_of s p ≡ Bend → (point : Point) × (IsPoint s p point) × (point.kind ≡ Bend)
bend_point s p l e = let r = some_at s.points p l in (r.0, r.1, ap kind_from (sym r.1) ∙ e)

-- the kind of a turbine, a substation and a bend
pub turbine_kind : (k : Kind) → IsTrue (is_turbine k) → (power : ℕ) × (k ≡ Turbine power)
turbine_kind (Turbine power) h = (power, refl)
turbine_kind (Substation feeders power) h = absurd (cc)
turbine_kind Bend h = absurd (cc)

pub substation_kind : (k : Kind) → IsTrue (is_substation k) → (feeders power : ℕ) × (k ≡ Substation feeders power)
substation_kind (Turbine power) h = absurd (cc)
substation_kind (Substation feeders power) h = (feeders, power, refl)
substation_kind Bend h = absurd (cc)

pub bend_kind : (k : Kind) → IsTrue (is_bend k) → k ≡ Bend
bend_kind (Turbine power) h = absurd (cc)
bend_kind (Substation feeders power) h = absurd (cc)
bend_kind Bend h = refl

-- a first cable out of a turbine of a legal layout
pub turbine_out : (s : Site) (cables : List Cable) → IsLegal s cables → (p : ℕ) → IsTrue (is_turbine (kind_of s p)) → (c : Cable) × (cable_out cables p ≡ Some c)
turbine_out s cables g p h = some_cable (cable_out cables p) (g.joined p h)
  where
    some_cable : (o : Option Cable) → IsTrue (is_some o) → (c : Cable) × (o ≡ Some c)
    some_cable None e = absurd (cc)
    some_cable (Some c) e = (c, refl)

-- what a turbine or a bend of a legal layout sends on is what it feeds in and what comes to it
pub sent_on : (s : Site) (cables : List Cable) → IsLegal s cables → (p : ℕ) → p < length s.points → (IsTrue (is_turbine (kind_of s p))) ⊎ (kind_of s p ≡ Bend)
    → sum_by (λ (c : Cable). cond (c.from == p) (load s cables c.from) 0) cables ≡ power_of s p + load_into s cables p
sent_on s cables g p l h = elim (out_cases cables p) [
  | inl n ↦ elim h [
    | inl t ↦ absurd (let r = turbine_out s cables g p t in let q : None ≡ Some r.0 = sym n ∙ r.1 in cc)
    | inr b ↦
        let point = bend_point s p l b in
        let as_many : starts_in cables p ≡ ends_in cables p = (g.bend p).as_many point.0 point.1 point.2 in
        let none : ends_in cables p ≡ 0 = sym as_many ∙ starts_in-none cables g.start p n in
        let own : power_of s p ≡ 0 = ap power_of_kind b in
        omega (arith, load_out-none s cables g.start p n, load_into-none s cables p none, own)
  ]
  | inr w ↦ load_out-some s cables g.start p w.0 w.1 ∙ load-flow s cables g.start (WalksEnd-legal s cables g) p
]

-- a run of ones
pub sum_by-ones : (a n : ℕ) → sum_by (λ (k : ℕ). 1) (range_with_len a n) ≡ n
sum_by-ones a zero = refl
sum_by-ones a (suc n) = omega (arith, sum_by-cons (λ (k : ℕ). 1) a (range_with_len (a + 1) n), sum_by-ones (a + 1) n)

-- fewer cables end in a point of a legal layout than there are points
pub ends_in-few : (s : Site) (cables : List Cable) → IsLegal s cables → (p : ℕ) → p < length s.points → suc (ends_in cables p) ≤ length s.points
ends_in-few s cables g p l =
    let n : ℕ = length s.points in
    let into : Cable → ℕ = λ c. cond (c.to == p) 1 0 in
    let out : ℕ → ℕ = λ k. value_at into (cable_out cables k) in
    let own : ℕ → ℕ = λ k. cond (p == k) 1 0 in
    let all = sum_by-keys (λ (c : Cable). c.from) into n cables g.start (λ i c e. (g.range i).from c e) in
    let one = sum_by-one_of p 1 0 n (omega arith) (omega arith) in
    let most = sum_by-le-sum_by (λ k. out k + own k) (λ k. 1) (range_with_len 0 n) each in
    omega (arith, all, one, most, sum_by-plus out own (range_with_len 0 n), sum_by-ones 0 n)
  where
    few : (c : Cable) → cond (c.to == p) 1 0 ≤ 1
    few c = elim (true_or_false (c.to == p)) [ inl t ↦ rw t (omega arith) | inr t ↦ rw t (omega arith) ]

    each : (k : ℕ) → value_at (λ (c : Cable). cond (c.to == p) 1 0) (cable_out cables k) + cond (p == k) 1 0 ≤ 1
    each k = elim (out_cases cables k) [
      | inl n ↦ rw n (elim (true_or_false (p == k)) [ inl t ↦ rw t (omega arith) | inr t ↦ rw t (omega arith) ])
      | inr w ↦ rw w.1 (elim (true_or_false (p == k)) [
        | inl t ↦
            let a = candidate-out s cables g.candidate k w.0 w.1 in
            let same : p ≡ k = eqb-true p k t in
            let from : w.0.from ≡ k = cable_out-from cables k w.0 w.1 in
            let other : w.0.to ≢ p = λ e. a.different (from ∙ sym same ∙ sym e) in
            rw (ne_eqb w.0.to p other, t) (omega arith)
        | inr t ↦ rw t (let f = few w.0 in omega (arith, f))
      ])
    ]

-- in a legal layout of a valid site at most as many cables end in a point as its inlet takes
pub ends_in-limit : (s : Site) (cables : List Cable) → IsValid s → IsLegal s cables → (p : ℕ) → p < length s.points → ends_in cables p ≤ inlet_limit s.mode (kind_of s p)
ends_in-limit s cables v g p l = by_kind (kind_of s p) refl
  where
    by_mode : (m : Mode) (power : ℕ) → s.mode ≡ m → kind_of s p ≡ Turbine power → ends_in cables p ≤ inlet_limit m (Turbine power)
    by_mode Tree power e k = let few = ends_in-few s cables g p l in let most = v.points_count in omega (arith, few, most)
    by_mode Strings power e k = g.string p e (rw k refl)

    by_kind : (k : Kind) → kind_of s p ≡ k → ends_in cables p ≤ inlet_limit s.mode k
    by_kind (Turbine power) k = by_mode s.mode power refl k
    by_kind (Substation feeders power) k = g.feeders p feeders power k
    by_kind Bend k =
        let point = bend_point s p l k in
        let as_many : starts_in cables p ≡ ends_in cables p = (g.bend p).as_many point.0 point.1 point.2 in
        let most : starts_in cables p ≤ 1 = (g.bend p).at_most_one point.0 point.1 point.2 in
        omega (arith, as_many, most)

-- a type's capacity is at most the largest
pub capacity-most : (s : Site) (grade : ℕ) → capacity_of s grade ≤ largest_capacity s
capacity-most s grade = by_type (slice_get s.types grade) refl
  where
    by_type : (o : Option CableType) → slice_get s.types grade ≡ o → capacity_from o ≤ largest_capacity s
    by_type None e = omega arith
    by_type (Some t) e = fold_max-at (λ (t : CableType). t.capacity) 0 s.types grade t e

-- a cable of a legal layout carries at most the largest capacity
pub load-most : (s : Site) (cables : List Cable) → IsLegal s cables → (i : ℕ) (c : Cable) → IsCable cables i c → load s cables c.from ≤ largest_capacity s
load-most s cables g i c e = let a = g.capacity c.from i c e refl in let b = capacity-most s c.grade in omega (arith, a, b)

-- the largest capacity of a valid site is some power
pub largest_capacity-some : (s : Site) → IsValid s → 1 ≤ largest_capacity s
largest_capacity-some s v =
    let r = some_at s.types 0 (let h = v.some_types in omega (arith, h)) in
    let t = all-at (IsCableType s.version) s.types 0 r.0 v.types r.1 in
    let h = t.some_capacity in
    let m = fold_max-at (λ (t : CableType). t.capacity) 0 s.types 0 r.0 r.1 in
    omega (arith, h, m)
