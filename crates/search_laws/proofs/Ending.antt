-- Where a search ends.
use Rattle.std.proofs.Common.{◌≡◌, ℕ, zero, suc, ◌^◌, ◌<◌, ◌≤◌, ◌⊎◌, inl, inr, List, [], slice_get, Some, None, Option, refl, sym, ◌∙◌, subst, arith}
use Rattle.std.specs.Prelude.{IsTrue}
use Rattle.std.proofs.lemmas.Option.{slice_get_within, get_or_from_slice_get}
use Rattle.cable_definitions.specs.declared.cable.Cable.{Cable}
use Rattle.cable_definitions.specs.declared.cable.Arc.{Arc}
use Rattle.cable_definitions.specs.declared.claim.Claim.TheVariants.{Optimal, Gap, Partial, Infeasible}
use Rattle.cable_definitions.specs.Site.{Site, IsValid}
use Rattle.cable_definitions.specs.Arcs.{AreArcs}
use Rattle.cable_definitions.specs.Budget.{enough_budget}
use Rattle.cable_definitions.specs.Layout.{cost}
use Rattle.cable_definitions.specs.Part.{IsBlocked}
use Rattle.cable_definitions.specs.Tree.{Status, Unworked, WasSplit, Stopped, WasDead, WasFull, Node, node_of, ceiling, is_open_leaf, IsLeastBound, AllDead, Agrees}
use Rattle.cable_definitions.specs.Core.{Core, IsBelowKnown, IsClosed, IsSpent}
use Rattle.layout_laws.proofs.Typing.{all-at}
use Rattle.proof_laws.proofs.Lists.{all_from, any_at}
use Rattle.proof_laws.proofs.Costs.{cost-ceiling}
use Rattle.proof_laws.proofs.Sound.{IsSound, IsCovered, sound-accepted, least-sound}
use Rattle.proof_laws.proofs.WorkCounts.{works-below}
use Rattle.run_definitions.specs.Plan.{HasIsolatedTurbine}
use Rattle.search_laws.specs.Cores.{IsStoppedOrFull, IsCore}
use Rattle.search_laws.proofs.Lanes.{none_holding}
use Rattle.search_laws.proofs.Isolated.{none_legal}
use Rattle.search_laws.proofs.FirstNode.{none-unworked}
use Rattle.search_laws.proofs.Ceilings.{ceiling_small}
use Rattle.search_laws.proofs.Falling.{known-reached}
use Rattle.search_laws.proofs.Wanting.{wanted-from}

-- ---- leaves
-- an open leaf isn't worked, or it is stopped or full
leaf_kind : (node : Node) → IsTrue (is_open_leaf node.status) → (node.status ≡ Unworked) ⊎ IsStoppedOrFull node
leaf_kind node leaf = by_status node.status leaf
  where
    by_status : (status : Status) → IsTrue (is_open_leaf status) → (status ≡ Unworked) ⊎ ((status ≡ Stopped) ⊎ (status ≡ WasFull))
    by_status Unworked o = inl refl
    by_status WasSplit o = absurd (cc)
    by_status Stopped o = inr (inl refl)
    by_status WasDead o = absurd (cc)
    by_status WasFull o = inr (inr refl)

-- an unworked node is an open leaf
unworked_leaf : (status : Status) → status ≡ Unworked → IsTrue (is_open_leaf status)
unworked_leaf status e = subst (λ (t : Status). IsTrue (is_open_leaf t)) (sym e) refl

-- a stopped or full node has a known layout that costs no more than its bound
pub settled-known : (s : Site) (arcs : List Arc) (n : ℕ) (core : Core) (v : ℕ) (node : Node) → IsCore s arcs n core → node_of core.kept.nodes v ≡ Some node → IsStoppedOrFull node
    → (cables : List Cable) × (core.known ≡ Some cables) × (cost s cables ≤ node.bound)
settled-known s arcs n core v node is e settled = known-reached s core.known node.bound (is.beaten v node e settled)

-- ---- closed
-- no open leaf's bound is below the known cost
closed-beaten : (s : Site) (arcs : List Arc) (n : ℕ) (core : Core) → IsCore s arcs n core → IsClosed s core → (i : ℕ) (node : Node) → slice_get core.kept.nodes i ≡ Some node → IsTrue (is_open_leaf node.status)
    → ¬ (IsBelowKnown s core.known node.bound)
closed-beaten s arcs n core is closed i node e leaf below = elim (leaf_kind node leaf) [
  | inl unworked ↦ closed.none_wanted (suc i) (wanted-from s core (suc i) node closed.empty e unworked below)
  | inr settled ↦ is.beaten (suc i) node e settled below
]

-- the known layout costs no more than what isn't below its cost
at_least_known : (s : Site) (known : Option (List Cable)) (cables : List Cable) (b : ℕ) → known ≡ Some cables → ¬ (IsBelowKnown s known b) → cost s cables ≤ b
at_least_known s known cables b e beaten =
    let r = known-reached s known b beaten in
    let f : Some r.0 ≡ Some cables = sym r.1 ∙ e in
    subst (λ (xs : List Cable). cost s xs ≤ b) (let same : r.0 ≡ cables = cc in same) r.2

-- the known cost is the least bound
pub closed-least : (s : Site) (arcs : List Arc) (n : ℕ) (core : Core) (cables : List Cable) → IsValid s → AreArcs s arcs → IsCore s arcs n core → IsClosed s core → core.known ≡ Some cables
    → IsLeastBound core.kept (cost s cables)
closed-least s arcs n core cables valid are is closed e = record {
  reached = (c.place, c.node, slice_get_within core.kept.nodes c.place c.node c.made, get_or_from_slice_get core.kept.nodes c.place c.node c.node c.made, (c.open_leaf, exact));
  least = all_from (λ (v : Node). IsTrue (is_open_leaf v.status) → cost s cables ≤ v.bound) core.kept.nodes low;
}
  where
    sound : IsSound s arcs core.kept
    sound = sound-accepted s arcs n core.items core.kept valid are is.accepted

    c : IsCovered arcs core.kept.nodes cables
    c = sound.nodes.cover cables (is.legal cables e)

    low : (i : ℕ) (node : Node) → slice_get core.kept.nodes i ≡ Some node → IsTrue (is_open_leaf node.status) → cost s cables ≤ node.bound
    low i node f leaf = at_least_known s core.known cables node.bound e (closed-beaten s arcs n core is closed i node f leaf)

    exact : c.node.bound ≡ cost s cables
    exact =
        let up = low c.place c.node c.made c.open_leaf in
        let down = sound.nodes.bounds c.place c.node c.made cables (is.legal cables e) c.in_box in
        omega (arith, up, down)

-- without a known layout all leaves are dead
pub closed-dead : (s : Site) (arcs : List Arc) (n : ℕ) (core : Core) → IsCore s arcs n core → IsClosed s core → core.known ≡ None → AllDead core.kept
closed-dead s arcs n core is closed e =
    all_from (λ (v : Node). ¬ IsTrue (is_open_leaf v.status)) core.kept.nodes
    (λ i node f leaf. closed-beaten s arcs n core is closed i node f leaf (subst (λ (o : Option (List Cable)). IsBelowKnown s o node.bound) (sym e) tt))

-- ---- spent
-- never within a budget that is enough
pub enough-unspent : (s : Site) (arcs : List Arc) (n : ℕ) (core : Core) → IsValid s → AreArcs s arcs → IsCore s arcs n core → enough_budget arcs ≤ n → ¬ (IsSpent s n core)
enough-unspent s arcs n core valid are is enough spent =
    let open_node = spent.wanted.is_open in
    let below = works-below s arcs n core.items core.kept valid are is.accepted spent.node open_node.node open_node.made open_node.unworked in
    let all = spent.works in
    omega (arith, below, all, enough)

-- the least bound is then below the known cost
pub spent-gap : (s : Site) (n : ℕ) (core : Core) (cables : List Cable) (bound : ℕ) → IsSpent s n core → core.known ≡ Some cables → IsLeastBound core.kept bound → bound < cost s cables
spent-gap s n core cables bound spent e least = at spent.node spent.wanted.is_open.node spent.wanted.is_open.made spent.wanted.is_open.unworked (subst (λ (o : Option (List Cable)). IsBelowKnown s o spent.wanted.is_open.node.bound) e spent.wanted.below)
  where
    at : (v : ℕ) (node : Node) → node_of core.kept.nodes v ≡ Some node → node.status ≡ Unworked → node.bound < cost s cables → bound < cost s cables
    at zero node f unworked below = absurd (cc)
    at (suc i) node f unworked below =
        let low = all-at (λ (x : Node). IsTrue (is_open_leaf x.status) → bound ≤ x.bound) core.kept.nodes i node least.least f (unworked_leaf node.status unworked) in
        omega (arith, low, below)

-- ---- least bounds
-- the least bound is at most the ceiling
pub least-capped : (s : Site) (arcs : List Arc) (n : ℕ) (core : Core) (bound : ℕ) → IsValid s → AreArcs s arcs → IsCore s arcs n core → IsLeastBound core.kept bound → bound ≤ ceiling s arcs
least-capped s arcs n core bound valid are is least = elim (leaf_kind leaf.1 leaf.3.0) [
  | inl unworked ↦ (let cap = is.capped (suc leaf.0) leaf.1 leaf.2 unworked in let same = leaf.3.1 in omega (arith, cap, same))
  | inr settled ↦
      let r = settled-known s arcs n core (suc leaf.0) leaf.1 is leaf.2 settled in
      let legal = is.legal r.0 r.1 in
      let low = least-sound s arcs core.kept bound (sound-accepted s arcs n core.items core.kept valid are is.accepted) least r.0 legal in
      let cap = cost-ceiling s arcs r.0 are legal in
      omega (arith, low, cap)
]
  where
    leaf : (i : ℕ) × (x : Node) × (slice_get core.kept.nodes i ≡ Some x) × (IsTrue (is_open_leaf x.status) × (x.bound ≡ bound))
    leaf = any_at (λ (v : Node). IsTrue (is_open_leaf v.status) × (v.bound ≡ bound)) core.kept.nodes least.reached

-- so it is below 2 ^ 63
pub least_small : (s : Site) (arcs : List Arc) (n : ℕ) (core : Core) (bound : ℕ) → IsValid s → AreArcs s arcs → IsCore s arcs n core → IsLeastBound core.kept bound → bound < 2 ^ 63
least_small s arcs n core bound valid are is least =
    let cap = least-capped s arcs n core bound valid are is least in
    let small = ceiling_small s arcs valid in
    omega (arith, cap, small)

-- as each unworked node's bound is
pub unworked_small : (s : Site) (arcs : List Arc) (n : ℕ) (core : Core) (v : ℕ) (node : Node) → IsValid s → IsCore s arcs n core → node_of core.kept.nodes v ≡ Some node → node.status ≡ Unworked → node.bound < 2 ^ 63
unworked_small s arcs n core v node valid is e unworked =
    let cap = is.capped v node e unworked in
    let small = ceiling_small s arcs valid in
    omega (arith, cap, small)

-- ---- sites with a turbine that no arc leads out of
-- once some work is done, no node is left
isolated-none : (s : Site) (arcs : List Arc) (n : ℕ) (core : Core) → IsValid s → AreArcs s arcs → IsCore s arcs n core → HasIsolatedTurbine s → 1 ≤ core.kept.works
    → (v : ℕ) (node : Node) → node_of core.kept.nodes v ≡ Some node → node.status ≡ Unworked → ⊥
isolated-none s arcs n core valid are is isolated some = none-unworked s arcs n core.items core.kept valid are is.accepted some (is.alone isolated)

-- so the search is closed
pub isolated-closed : (s : Site) (arcs : List Arc) (n : ℕ) (core : Core) → IsValid s → AreArcs s arcs → IsCore s arcs n core → HasIsolatedTurbine s → 1 ≤ core.kept.works → IsClosed s core
isolated-closed s arcs n core valid are is isolated some = record {
  empty = none_holding core.lanes (λ i v e. let held = is.held_unworked i v e in isolated-none s arcs n core valid are is isolated some v held.0 held.1 held.2);
  none_wanted = λ v wanted. isolated-none s arcs n core valid are is isolated some v wanted.is_open.node wanted.is_open.made wanted.is_open.unworked;
}

-- no layout is known
isolated-unknown : (s : Site) (arcs : List Arc) (n : ℕ) (core : Core) → IsCore s arcs n core → HasIsolatedTurbine s → core.known ≡ None
isolated-unknown s arcs n core is isolated = by_known core.known refl
  where
    by_known : (o : Option (List Cable)) → core.known ≡ o → core.known ≡ None
    by_known None e = e
    by_known (Some cables) e = absurd (none_legal s isolated cables (is.legal cables e))

-- and all leaves are dead
pub isolated-dead : (s : Site) (arcs : List Arc) (n : ℕ) (core : Core) → IsValid s → AreArcs s arcs → IsCore s arcs n core → HasIsolatedTurbine s → 1 ≤ core.kept.works → AllDead core.kept
isolated-dead s arcs n core valid are is isolated some =
    closed-dead s arcs n core is (isolated-closed s arcs n core valid are is isolated some) (isolated-unknown s arcs n core is isolated)

-- ---- claims
-- the known layout is optimal
pub closed-optimal : (s : Site) (arcs : List Arc) (n : ℕ) (core : Core) (cables : List Cable) → IsValid s → AreArcs s arcs → IsCore s arcs n core → IsClosed s core → core.known ≡ Some cables
    → Agrees s n core.kept cables (Optimal (cost s cables))
closed-optimal s arcs n core cables valid are is closed e = ((is.legal cables e, refl), closed-least s arcs n core cables valid are is closed e)

-- there is no layout
pub closed-infeasible : (s : Site) (arcs : List Arc) (n : ℕ) (core : Core) → IsCore s arcs n core → IsClosed s core → core.known ≡ None → Agrees s n core.kept [] Infeasible
closed-infeasible s arcs n core is closed e = (refl, closed-dead s arcs n core is closed e)

-- a gap is left
pub spent-agrees : (s : Site) (arcs : List Arc) (n : ℕ) (core : Core) (cables : List Cable) (bound : ℕ) → IsCore s arcs n core → IsSpent s n core → core.known ≡ Some cables → IsLeastBound core.kept bound
    → Agrees s n core.kept cables (Gap (cost s cables) bound)
spent-agrees s arcs n core cables bound is spent e least = ((is.legal cables e, refl), (least, spent-gap s n core cables bound spent e least, spent.works))

-- a part is all there is
pub spent-part : (s : Site) (n : ℕ) (core : Core) (part : List Cable) (stuck bound : ℕ) → IsSpent s n core → IsBlocked s part stuck → IsLeastBound core.kept bound → Agrees s n core.kept part (Partial bound stuck)
spent-part s n core part stuck bound spent blocked least = (blocked, (least, spent.works))
