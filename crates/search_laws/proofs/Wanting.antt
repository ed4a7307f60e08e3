-- Whether some node is wanted.
use Rattle.std.proofs.Common.{◌≡◌, ℕ, zero, suc, ◌<◌, ◌≤◌, ◌⊎◌, inl, inr, List, [], ◌∷◌, slice_get, Some, None, Option, refl, sym, ◌∙◌, ap, subst, arith}
use Rattle.cable_definitions.specs.declared.cable.Cable.{Cable}
use Rattle.cable_definitions.specs.declared.cable.Arc.{Arc}
use Rattle.cable_definitions.specs.Site.{Site}
use Rattle.cable_definitions.specs.Layout.{cost}
use Rattle.cable_definitions.specs.Tree.{Status, Unworked, WasSplit, Stopped, WasDead, WasFull, Node, node_of}
use Rattle.cable_definitions.specs.Core.{Core, Take, IsBelowKnown, IsWanted, IsPossible, IsClosed, IsSpent, held_count}
use Rattle.proof_laws.proofs.Lists.{any_at}
use Rattle.search_laws.specs.Cores.{IsCore}
use Rattle.search_laws.proofs.Lanes.{none_held}

-- ---- one node
-- an unworked node whose bound is below the known cost
abbrev pub IsPromising : Site → Option (List Cable) → Node → Type 0
IsPromising s known node = (node.status ≡ Unworked) × IsBelowKnown s known node.bound

-- a status is that, or another
unworked_or_not : (status : Status) → (status ≡ Unworked) ⊎ (¬ (status ≡ Unworked))
unworked_or_not Unworked = inl refl
unworked_or_not WasSplit = inr (λ e. cc)
unworked_or_not Stopped = inr (λ e. cc)
unworked_or_not WasDead = inr (λ e. cc)
unworked_or_not WasFull = inr (λ e. cc)

-- a bound is below the known cost, or it isn't
below_or_not : (s : Site) (known : Option (List Cable)) (b : ℕ) → IsBelowKnown s known b ⊎ (¬ (IsBelowKnown s known b))
below_or_not s None b = inl tt
below_or_not s (Some cables) b = either b (cost s cables)
  where
    either : (x y : ℕ) → (x < y) ⊎ (¬ (x < y))
    either x y = elim (order x y) [ inl l ↦ inl l | inr l ↦ inr (λ k. omega (arith, k, l)) ]
      where
        order : (x y : ℕ) → (x < y) ⊎ (y ≤ x)
        order x y = grind arith

-- a node is that, or it isn't
promising_or_not : (s : Site) (known : Option (List Cable)) (node : Node) → IsPromising s known node ⊎ (¬ (IsPromising s known node))
promising_or_not s known node = elim (unworked_or_not node.status) [
  | inl e ↦ elim (below_or_not s known node.bound) [ inl b ↦ inl (e, b) | inr b ↦ inr (λ p. b p.1) ]
  | inr e ↦ inr (λ p. e p.0)
]

-- ---- all nodes
-- an element for which a fact holds, or none
pub some_or_none : {X : Type 0} → (P : X → Type 0) → ((x : X) → P x ⊎ (¬ (P x))) → (xs : List X)
    → ((i : ℕ) × (x : X) × (slice_get xs i ≡ Some x) × P x) ⊎ ((i : ℕ) (x : X) → slice_get xs i ≡ Some x → ¬ (P x))
some_or_none P either [] = inr (λ i x e p. cc)
some_or_none {X} P either (y ∷ ys) = by_case (either y) (some_or_none P either ys)
  where
    by_case : P y ⊎ (¬ (P y)) → ((i : ℕ) × (x : X) × (slice_get ys i ≡ Some x) × P x) ⊎ ((i : ℕ) (x : X) → slice_get ys i ≡ Some x → ¬ (P x))
        → ((i : ℕ) × (x : X) × (slice_get (y ∷ ys) i ≡ Some x) × P x) ⊎ ((i : ℕ) (x : X) → slice_get (y ∷ ys) i ≡ Some x → ¬ (P x))
    by_case (inl p) rest = inl (0, y, refl, p)
    by_case (inr h) (inl r) = inl (suc r.0, r.1, r.2, r.3)
    by_case (inr h) (inr none) = inr at
      where
        at : (i : ℕ) (x : X) → slice_get (y ∷ ys) i ≡ Some x → ¬ (P x)
        at zero x e p = h (let same : y ≡ x = cc in subst P (sym same) p)
        at (suc i) x e p = none i x e p

-- where no lane holds a node, such a node is wanted
pub wanted-from : (s : Site) (core : Core) (v : ℕ) (node : Node) → held_count core ≡ 0 → node_of core.kept.nodes v ≡ Some node → node.status ≡ Unworked → IsBelowKnown s core.known node.bound → IsWanted s core v
wanted-from s core v node empty e unworked below = record {
  is_open = record {
    node = node;
    made = e;
    unworked = unworked;
    not_held = λ held. (let at = any_at (λ (lane : Option ℕ). lane ≡ Some v) core.lanes held in none_held core.lanes empty at.0 v (at.2 ∙ ap Some at.3));
  };
  below = below;
}

-- some node is wanted, or none is
pub some_wanted : (s : Site) (core : Core) → held_count core ≡ 0 → ((v : ℕ) × IsWanted s core v) ⊎ ((v : ℕ) → ¬ (IsWanted s core v))
some_wanted s core empty = elim (some_or_none (IsPromising s core.known) (promising_or_not s core.known) core.kept.nodes) [
  | inl r ↦ inl (suc r.0, wanted-from s core (suc r.0) r.1 empty r.2 r.3.0 r.3.1)
  | inr none ↦ inr (λ v wanted. at none v wanted.is_open.node wanted.is_open.made (wanted.is_open.unworked, wanted.below))
]
  where
    at : ((i : ℕ) (x : Node) → slice_get core.kept.nodes i ≡ Some x → ¬ (IsPromising s core.known x)) → (v : ℕ) (node : Node) → node_of core.kept.nodes v ≡ Some node → IsPromising s core.known node → ⊥
    at none zero node e p = cc
    at none (suc i) node e p = none i node e p

-- ---- a search with no node held
-- it is closed, or its budget is spent, or each empty lane can take a node
pub ends-or-goes_on : (s : Site) (arcs : List Arc) (n : ℕ) (core : Core) → IsCore s arcs n core → held_count core ≡ 0
    → IsClosed s core ⊎ (IsSpent s n core ⊎ ((lane : ℕ) → slice_get core.lanes lane ≡ Some None → IsPossible s n core (Take lane)))
ends-or-goes_on s arcs n core is empty = elim (some_wanted s core empty) [
  | inr none ↦ inl (record { empty = empty; none_wanted = none })
  | inl w ↦ elim (left core.kept.works n (let budget = is.budget in omega (arith, budget))) [
    | inl less ↦ inr (inr (λ lane e. (e, w, omega (arith, less, empty))))
    | inr all ↦ inr (inl (record { works = all; node = w.0; wanted = w.1 }))
  ]
]
  where
    left : (works n : ℕ) → works ≤ n → (works < n) ⊎ (works ≡ n)
    left works n l = grind arith

-- so it goes on where it is neither closed nor spent
pub goes_on : (s : Site) (arcs : List Arc) (n : ℕ) (core : Core) (lane : ℕ) → IsCore s arcs n core → held_count core ≡ 0 → ¬ (IsClosed s core) → ¬ (IsSpent s n core) → slice_get core.lanes lane ≡ Some None
    → IsPossible s n core (Take lane)
goes_on s arcs n core lane is empty not_closed not_spent e = elim (ends-or-goes_on s arcs n core is empty) [
  | inl closed ↦ absurd (not_closed closed)
  | inr rest ↦ elim rest [ inl spent ↦ absurd (not_spent spent) | inr goes ↦ goes lane e ]
]
