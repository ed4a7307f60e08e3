-- There is one least bound, and a new bound fits.
use Rattle.std.proofs.Common.{◌≡◌, ℕ, ◌^◌, ◌≤◌, true, nat_eq, ℤ, pos, negsuc, nat_abs, ◌≤ℤ◌, ◌<ℤ◌, to_z, of_z, arith, sym, subst, eq-eqb}
use Rattle.std.specs.Prelude.{IsTrue}
use Rattle.std.specs.Int.{w128}
use Rattle.std.proofs.lemmas.Int.{ints, to_z-of_z}
use Rattle.std.proofs.lemmas.Bool.{eqb-true}
use Rattle.cable_definitions.specs.Tree.{ProofState, Node, is_open_leaf, IsLeastBound, AllDead}
use Rattle.layout_laws.proofs.Typing.{all-at}
use Rattle.proof_laws.proofs.Lists.{any_at}

-- ---- the least bound
-- where there is a least bound, some leaf isn't dead
pub not_all_dead : (kept : ProofState) (bound : ℕ) → IsLeastBound kept bound → ¬ (AllDead kept)
not_all_dead kept bound l dead =
    let a = any_at (λ (v : Node). IsTrue (is_open_leaf v.status) × (v.bound ≡ bound)) kept.nodes l.reached in
    all-at (λ (v : Node). ¬ IsTrue (is_open_leaf v.status)) kept.nodes a.0 a.1 dead a.2 a.3.0

-- there is one least bound
pub least_one : (kept : ProofState) (a b : ℕ) → IsLeastBound kept a → IsLeastBound kept b → a ≡ b
least_one kept a b l m =
    let p = any_at (λ (v : Node). IsTrue (is_open_leaf v.status) × (v.bound ≡ a)) kept.nodes l.reached in
    let q = any_at (λ (v : Node). IsTrue (is_open_leaf v.status) × (v.bound ≡ b)) kept.nodes m.reached in
    let h : b ≤ p.1.bound = all-at (λ (v : Node). IsTrue (is_open_leaf v.status) → b ≤ v.bound) kept.nodes p.0 p.1 m.least p.2 p.3.0 in
    let k : a ≤ q.1.bound = all-at (λ (v : Node). IsTrue (is_open_leaf v.status) → a ≤ v.bound) kept.nodes q.0 q.1 l.least q.2 q.3.0 in
    let e : p.1.bound ≡ a = p.3.1 in
    let f : q.1.bound ≡ b = q.3.1 in
    omega arith

-- ---- bounds as numbers of the machine
-- a bound that equals a number passes the test
pub same_tells : (z f : ℤ) (n : ℕ) → pos 0 ≤ℤ z → f ≡ pos n → nat_abs z ≡ n → IsTrue (nat_eq (of_z w128 z) (of_z w128 f))
same_tells (pos m) f n h e t = subst (λ (g : ℤ). nat_eq m (of_z w128 g) ≡ true) (sym e) (eq-eqb m n t)
same_tells (negsuc m) f n h e t = absurd (omega (arith, ints, h))

-- a bound that passes the test equals the number
pub told_same : (z f : ℤ) (n : ℕ) → pos 0 ≤ℤ z → f ≡ pos n → IsTrue (nat_eq (of_z w128 z) (of_z w128 f)) → nat_abs z ≡ n
told_same (pos m) f n h e t = eqb-true m n (subst (λ (g : ℤ). nat_eq m (of_z w128 g) ≡ true) e t)
told_same (negsuc m) f n h e t = absurd (omega (arith, ints, h))

-- a small number comes back from the machine
pub small_back : (z : ℤ) → pos 0 ≤ℤ z → z <ℤ pos (2 ^ 100) → to_z w128 (of_z w128 z) ≡ z
small_back z h k = to_z-of_z w128 z (omega (arith, ints, h, k))

-- ---- new bounds
-- a new bound that is small where its parent's is, is small as the machine passes it on
pub new_small : (p r : ℤ) → pos 0 ≤ℤ p → p <ℤ pos (2 ^ 100) → (to_z w128 (of_z w128 p) <ℤ pos (2 ^ 100) → r <ℤ pos (2 ^ 100)) → pos 0 ≤ℤ r
    → to_z w128 (of_z w128 r) <ℤ pos (2 ^ 100)
new_small p r hp kp small hr =
    let q : r <ℤ pos (2 ^ 100) = small (subst (λ (z : ℤ). z <ℤ pos (2 ^ 100)) (sym (small_back p hp kp)) kp) in
    subst (λ (z : ℤ). z <ℤ pos (2 ^ 100)) (sym (small_back r hr q)) q
