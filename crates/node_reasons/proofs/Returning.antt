-- Walks that return.
use Rattle.std.proofs.Common.{◌≡◌, ◌≢◌, ℕ, zero, suc, ◌+◌, ◌<◌, ◌≤◌, List, Some, None, Option, inl, inr, ◌⊎◌, arith, sym, ap, ◌∙◌}
use Rattle.std.specs.Prelude.{is_some}
use Rattle.std.proofs.lemmas.Bool.{cases_lt}
use Rattle.cable_definitions.specs.declared.cable.Cable.{Cable}
use Rattle.cable_definitions.specs.Walk.{cable_out, walk_end, end_of_cable}
use Rattle.cable_definitions.specs.Layout.{Starts}
use Rattle.layout_laws.proofs.Walking.{Starts-from_out, most_steps_is, walk_end-further, walk_end-ended, out_cases}
use Rattle.node_reasons.specs.Reasons.{Returns}

-- a step more, from where a walk stands
pub walk_end-more : (cables : List Cable) (p n at : ℕ) (c : Cable) → at ≡ walk_end n cables p → cable_out cables at ≡ Some c → walk_end (n + 1) cables p ≡ c.to
walk_end-more cables p n at c e f =
    walk_end-further cables p n 1
    ∙ ap (walk_end 1 cables) (sym e)
    ∙ ap (λ (o : Option Cable). end_of_cable o at) f

-- a walk that ends before it came back doesn't return
pub ended_away : (cables : List Cable) (p n at : ℕ) → at ≡ walk_end n cables p → cable_out cables at ≡ None → ((k : ℕ) → 1 ≤ k → k ≤ n → walk_end k cables p ≢ p) → ¬ (Returns cables p)
ended_away cables p zero at e f h r = absurd (let g : cable_out cables p ≡ None = ap (cable_out cables) (sym e) ∙ f in no_start g r.0)
  where
    no_start : cable_out cables p ≡ None → Starts cables p → ⊥
    no_start g s = absurd (let q = ap is_some g in cc)
ended_away cables p (suc n) at e f h r =
    let ends : cable_out cables (walk_end (suc n) cables p) ≡ None = ap (cable_out cables) (sym e) ∙ f in
    elim (cases_lt (suc n) r.1.0) [
      | inl more ↦ h (suc n) (omega arith) (omega arith) (sym (walk_end-ended cables p (suc n) r.1.0 (omega arith) ends) ∙ r.1.3)
      | inr few ↦ h r.1.0 r.1.1 few r.1.3
    ]

-- a walk that comes back after some steps returns
pub comes_back : (cables : List Cable) (p n at : ℕ) (c : Cable) → n < 256 → at ≡ walk_end n cables p → cable_out cables at ≡ Some c → c.to ≡ p → Returns cables p
comes_back cables p n at c l e f q = (
  starts n e,
  (n + 1, (omega arith), (omega (arith, most_steps_is)), walk_end-more cables p n at c e f ∙ q),
)
  where
    starts : (k : ℕ) → at ≡ walk_end k cables p → Starts cables p
    starts k g = by_out k g (out_cases cables p)
      where
        by_out : (k : ℕ) → at ≡ walk_end k cables p → (cable_out cables p ≡ None) ⊎ ((d : Cable) × (cable_out cables p ≡ Some d)) → Starts cables p
        by_out k g (inr (d, o)) = Starts-from_out cables p d o
        by_out k g (inl none) = absurd (
            let stays : walk_end k cables p ≡ p = walk_end-ended cables p 0 k (omega arith) none in
            let z : cable_out cables p ≡ Some c = ap (cable_out cables) (sym (g ∙ stays)) ∙ f in
            let bad : None ≡ Some c = sym none ∙ z in cc)

-- a walk that didn't come back in 256 steps doesn't return
pub never_back : (cables : List Cable) (p n : ℕ) → 256 ≤ n → ((k : ℕ) → 1 ≤ k → k ≤ n → walk_end k cables p ≢ p) → ¬ (Returns cables p)
never_back cables p n l h r = h r.1.0 r.1.1 (let m = r.1.2 in omega (arith, most_steps_is)) r.1.3

-- one step more that doesn't come back
pub not_yet-more : (cables : List Cable) (p n at : ℕ) (c : Cable) → at ≡ walk_end n cables p → cable_out cables at ≡ Some c → c.to ≢ p → ((k : ℕ) → 1 ≤ k → k ≤ n → walk_end k cables p ≢ p)
    → (k : ℕ) → 1 ≤ k → k ≤ n + 1 → walk_end k cables p ≢ p
not_yet-more cables p n at c e f away h k a b q = elim (cases_lt n k) [
  | inl last ↦ away (sym (walk_end-more cables p n at c e f) ∙ ap (λ j. walk_end j cables p) (let g : n + 1 ≡ k = omega arith in g) ∙ q)
  | inr less ↦ h k a less q
]
