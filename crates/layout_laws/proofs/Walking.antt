-- Walks step by step: where they stand, which points they pass, and that none comes back.
use Rattle.std.proofs.Common.{◌≡◌, ◌≢◌, ℕ, zero, suc, ◌+◌, ◌-◌, ◌*◌, ◌≤◌, ◌⊎◌, inl, inr, Bool, true, false, cond, List, ◌∷◌, Option, Some, None, refl, ap, sym, ◌∙◌, arith, eq-eqb}
use Rattle.std.specs.Prelude.{◌==◌, IsSome}
use Rattle.std.specs.List.{list_any}
use Rattle.std.proofs.lemmas.Bool.Decides.{eqb_tells}
use Rattle.std.proofs.lemmas.List.Sums.{sum_by-cons}
use Rattle.number_laws.proofs.NatSums.{one_if-most, count_by-none, count_by-once}
use Rattle.cable_definitions.specs.declared.cable.Cable.{Cable}
use Rattle.cable_definitions.specs.Walk.{cable_out, end_of_cable, walk, walk_end, most_steps, passes}
use Rattle.cable_definitions.specs.Layout.{Starts}
use Rattle.layout_laws.specs.Visits.{visits, WalksEnd}

-- no cable starts where none is the first
pub none-from_Starts : (cables : List Cable) (p : ℕ) → ¬ (Starts cables p) → cable_out cables p ≡ None
none-from_Starts cables p n = by_cases (cable_out cables p) n
  where
    by_cases : (o : Option Cable) → ¬ (IsSome o) → o ≡ None
    by_cases None n = refl
    by_cases (Some c) n = absurd (n refl)

-- a first cable starts
pub Starts-from_out : (cables : List Cable) (p : ℕ) (c : Cable) → cable_out cables p ≡ Some c → Starts cables p
Starts-from_out cables p c e = rw e refl

-- at most 256 steps
pub most_steps_is : most_steps ≡ 256
unfolding most_steps
most_steps_is = refl

-- a walk stays where no cable starts
pub walk_end-stays : (cables : List Cable) (p steps : ℕ) → cable_out cables p ≡ None → walk_end steps cables p ≡ p
walk_end-stays cables p zero e = refl
walk_end-stays cables p (suc steps) e = rw e (walk_end-stays cables p steps e)

-- the first step
pub walk_end-step : (cables : List Cable) (p steps : ℕ) (c : Cable) → cable_out cables p ≡ Some c → walk_end (suc steps) cables p ≡ walk_end steps cables c.to
walk_end-step cables p steps c e = rw e refl

-- one walk after another
pub walk_end-further : (cables : List Cable) (p a b : ℕ) → walk_end (a + b) cables p ≡ walk_end b cables (walk_end a cables p)
walk_end-further cables p zero b = ap (λ (k : ℕ). walk_end k cables p) (let e : 0 + b ≡ b = omega arith in e)
walk_end-further cables p (suc a) b =
    ap (λ (k : ℕ). walk_end k cables p) (let e : suc a + b ≡ suc (a + b) = omega arith in e)
    ∙ walk_end-further cables (end_of_cable (cable_out cables p) p) a b

-- once it has ended, a walk stays where it is
pub walk_end-ended : (cables : List Cable) (p a b : ℕ) → a ≤ b → cable_out cables (walk_end a cables p) ≡ None → walk_end b cables p ≡ walk_end a cables p
walk_end-ended cables p a b h e =
    ap (λ (k : ℕ). walk_end k cables p) (let q : b ≡ a + (b - a) = omega arith in q)
    ∙ walk_end-further cables p a (b - a) ∙ walk_end-stays cables (walk_end a cables p) (b - a) e

-- a walk that comes back to where it began does so again and again
pub walk_end-again : (cables : List Cable) (p k times : ℕ) → walk_end k cables p ≡ p → walk_end (times * k) cables p ≡ p
walk_end-again cables p k zero e = ap (λ (n : ℕ). walk_end n cables p) (let q : 0 * k ≡ 0 = omega arith in q)
walk_end-again cables p k (suc times) e =
    ap (λ (n : ℕ). walk_end n cables p) (let q : suc times * k ≡ k + times * k = omega arith in q)
    ∙ walk_end-further cables p k (times * k) ∙ ap (walk_end (times * k) cables) e ∙ walk_end-again cables p k times e

-- a walk that ends never comes back to where it began
pub no_return : (cables : List Cable) (p steps k : ℕ) → cable_out cables (walk_end steps cables p) ≡ None → walk_end (suc k) cables p ≡ p → cable_out cables p ≡ None
no_return cables p steps k e back =
    let far : steps ≤ steps * suc k = omega (arith) in
    let here : p ≡ walk_end steps cables p = sym (walk_end-again cables p (suc k) steps back) ∙ walk_end-ended cables p steps (steps * suc k) far e in
    ap (cable_out cables) here ∙ e

-- whether one of the points of a walk of so many steps is p
abbrev pub comes_to : List Cable → ℕ → ℕ → ℕ → Bool
comes_to cables p steps at = list_any (λ q. q == p) (walk steps cables at)

-- no cable starts in a point, or one does
pub out_cases : (cables : List Cable) (p : ℕ) → (cable_out cables p ≡ None) ⊎ ((c : Cable) × (cable_out cables p ≡ Some c))
out_cases cables p = by_cases (cable_out cables p)
  where
    by_cases : (o : Option Cable) → (o ≡ None) ⊎ ((c : Cable) × (o ≡ Some c))
    by_cases None = inl refl
    by_cases (Some c) = inr (c, refl)

-- a walk stands on its points
pub comes_to-from_end : (cables : List Cable) (p steps at k : ℕ) → k ≤ steps → walk_end k cables at ≡ p → comes_to cables p steps at ≡ true
comes_to-from_end cables p zero at zero h e = rw (eq-eqb at p e) refl
comes_to-from_end cables p zero at (suc k) h e = absurd (omega arith)
comes_to-from_end cables p (suc steps) at k h e = elim (out_cases cables at) [
  | inl n ↦ rw n (rw (eq-eqb at p (sym (walk_end-stays cables at k n) ∙ e)) refl)
  | inr w ↦ rw w.1 (elim (eqb_tells at p) [
    | inl t ↦ rw t.0 refl
    | inr t ↦ rw t.0 (later w.0 w.1 k h t.1 e (λ j. comes_to-from_end cables p steps w.0.to j))
  ])
]
  where
    later : (c : Cable) → cable_out cables at ≡ Some c → (k : ℕ) → k ≤ suc steps → at ≢ p → walk_end k cables at ≡ p
        → ((j : ℕ) → j ≤ steps → walk_end j cables c.to ≡ p → comes_to cables p steps c.to ≡ true) → comes_to cables p steps c.to ≡ true
    later c w zero h n e f = absurd (n e)
    later c w (suc j) h n e f = f j (omega arith) (sym (walk_end-step cables at j c w) ∙ e)

-- and on no others
pub end-from_comes_to : (cables : List Cable) (p steps at : ℕ) → comes_to cables p steps at ≡ true → (k : ℕ) × (k ≤ steps) × (walk_end k cables at ≡ p)
end-from_comes_to cables p zero at h = elim (eqb_tells at p) [
  | inl t ↦ (0, omega arith, t.1)
  | inr t ↦ absurd (let g : false ≡ true = rw t.0 at h in cc)
]
end-from_comes_to cables p (suc steps) at h = elim (eqb_tells at p) [
  | inl t ↦ (0, omega arith, t.1)
  | inr t ↦ elim (out_cases cables at) [
    | inl n ↦ absurd (let g : false ≡ true = rw (n, t.0) at h in cc)
    | inr w ↦
        let r = end-from_comes_to cables p steps w.0.to (rw (w.1, t.0) at h) in
        let l : r.0 ≤ steps = r.1 in
        (suc r.0, omega arith, walk_end-step cables at r.0 w.0 w.1 ∙ r.2)
  ]
]

-- each walk begins where it begins
pub passes-start : (cables : List Cable) (p : ℕ) → passes cables p p ≡ true
passes-start cables p = comes_to-from_end cables p most_steps p 0 (omega arith) refl

-- a walk that has ended is no longer with one more step
pub walk-ended : (cables : List Cable) (p steps : ℕ) → cable_out cables (walk_end steps cables p) ≡ None → walk (suc steps) cables p ≡ walk steps cables p
walk-ended cables p zero e = rw e refl
walk-ended cables p (suc steps) e = elim (out_cases cables p) [
  | inl n ↦ rw n refl
  | inr w ↦ rw w.1 (ap (λ ps. p ∷ ps) (walk-ended cables w.0.to steps (ap (cable_out cables) (sym (walk_end-step cables p steps w.0 w.1)) ∙ e)))
]

-- a walk that ends comes to no point twice
pub visits-once : (cables : List Cable) (p steps at : ℕ) → cable_out cables (walk_end steps cables at) ≡ None → visits cables p steps at ≤ 1
visits-once cables p zero at e = omega (arith, one_if-most (at == p))
visits-once cables p (suc steps) at e = elim (out_cases cables at) [
  | inl n ↦ rw n (omega (arith, one_if-most (at == p)))
  | inr w ↦ rw w.1 (
      let here : ℕ = cond (at == p) 1 0 in
      let there = visits-once cables p steps w.0.to (ap (cable_out cables) (sym (walk_end-step cables at steps w.0 w.1)) ∙ e) in
      let sum = sum_by-cons (λ q. cond (q == p) 1 0) at (walk steps cables w.0.to) in
      elim (eqb_tells at p) [
        | inl t ↦
            let none = count_by-none (λ q. q == p) (walk steps cables w.0.to) (
            not_true (comes_to cables p steps w.0.to) (λ h.
            let r = end-from_comes_to cables p steps w.0.to h in
            let back : walk_end (suc r.0) cables at ≡ at = walk_end-step cables at r.0 w.0 w.1 ∙ r.2 ∙ sym t.1 in
            let stuck = no_return cables at (suc steps) r.0 e back in
            let moves : cable_out cables at ≡ Some w.0 = w.1 in
            cc)) in
            omega (arith, sum, none, one_if-most (at == p))
        | inr t ↦
            let zero_here : here ≡ 0 = rw t.0 refl in
            omega (arith, sum, there, zero_here)
      ])
]
  where
    not_true : (b : Bool) → (b ≡ true → ⊥) → b ≡ false
    not_true true n = absurd (n refl)
    not_true false n = refl

-- whether a walk that ends passes p is how often it comes to p
pub passes-visits : (cables : List Cable) (p t : ℕ) → cable_out cables (walk_end most_steps cables t) ≡ None → cond (passes cables p t) 1 0 ≡ visits cables p most_steps t
passes-visits cables p t e = count_by-once (λ q. q == p) (walk most_steps cables t) (visits-once cables p most_steps t e)

-- where all walks end, a walk that passes the start of a cable passes its end
pub passes-next : (cables : List Cable) → WalksEnd cables → (t : ℕ) (c : Cable) → cable_out cables c.from ≡ Some c → passes cables c.from t ≡ true → passes cables c.to t ≡ true
passes-next cables ends t c e h =
    let r = end-from_comes_to cables c.from most_steps t h in
    let k : r.0 ≤ most_steps = r.1 in
    let stuck : r.0 ≡ most_steps → ⊥ = λ same.
    ends t (Starts-from_out cables (walk_end most_steps cables t) c (ap (cable_out cables) (ap (λ (n : ℕ). walk_end n cables t) (sym same) ∙ r.2) ∙ e)) in
    let less : r.0 + 1 ≤ most_steps = omega arith in
    comes_to-from_end cables c.to most_steps t (r.0 + 1) less
    (walk_end-further cables t r.0 1 ∙ ap (walk_end 1 cables) r.2 ∙ walk_end-step cables c.from 0 c e)
