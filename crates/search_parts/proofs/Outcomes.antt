-- What a search ends with.
use Rattle.std.proofs.Common.{◌≡◌, ℕ, zero, suc, ◌^◌, ◌<◌, ◌≤◌, ◌⊎◌, inl, inr, List, [], Some, None, Option, refl, sym, ◌∙◌, ap, subst, arith}
use Rattle.std.specs.Prelude.{IsTrue}
use Rattle.cable_definitions.specs.declared.cable.Cable.{Cable}
use Rattle.cable_definitions.specs.declared.cable.Arc.{Arc}
use Rattle.cable_definitions.specs.declared.claim.Claim.{Claim}
use Rattle.cable_definitions.specs.declared.claim.Claim.TheVariants.{Partial, Infeasible}
use Rattle.cable_definitions.specs.Site.{Site}
use Rattle.cable_definitions.specs.Budget.{IsNearest}
use Rattle.cable_definitions.specs.Layout.{IsLegal, cost}
use Rattle.cable_definitions.specs.Part.{IsSettled, IsStraight}
use Rattle.cable_definitions.specs.InTree.{HasNoBends, IsFloor}
use Rattle.cable_definitions.specs.Tree.{Status, WasDead, WasFull, Node, ProofState, node_of, is_open_leaf, IsLeastBound, AllDead}
use Rattle.cable_definitions.specs.Core.{Core, Found, IsBelowKnown, IsSpent, Steps}
use Rattle.layout_laws.proofs.Nearest.{Least-nearest, HasNone-no_arc}
use Rattle.layout_laws.proofs.Typing.{all-at}
use Rattle.proof_laws.proofs.Lists.{any_at}
use Rattle.proof_laws.proofs.Sound.{IsSound, sound-accepted, least-sound, none-sound}
use Rattle.intree_floor.proofs.Holding.{legal-in_tree}
use Rattle.run_definitions.specs.Plan.{HasIsolatedTurbine, IsAtLeastFirstCables, IsAtLeastInTrees, HasNoInTree}
use Rattle.search_laws.proofs.Ending.{settled-known, closed-least, closed-dead, enough-unspent, least_small, isolated-dead}
use Rattle.search_laws.proofs.FirstNode.{begun-worked, above-first}
use Rattle.search_parts.specs.Floored.{IsFloored}
use Rattle.search_parts.specs.declared.start.Incumbent.{Incumbent}
use Rattle.search_parts.specs.declared.start.Incumbent.TheVariants.{Known, Part}
use Rattle.search_parts.specs.Start.{BeatsStraight, IsStuckPart, IsSettledBest, IsClaimedOf}
use Rattle.search_parts.specs.Outcome.{IsOutcome}
use Rattle.search_parts.specs.Ended.{IsNoDearer, HasEnded, IsConcluded}

-- ---- leaves
-- a full node is a leaf that isn't dead
full_leaf : (status : Status) → status ≡ WasFull → IsTrue (is_open_leaf status)
full_leaf status e = subst (λ (t : Status). IsTrue (is_open_leaf t)) (sym e) refl

-- a dead node isn't one
dead_leaf : (status : Status) → status ≡ WasDead → IsTrue (is_open_leaf status) → ⊥
dead_leaf status e leaf = (let f : IsTrue (is_open_leaf WasDead) = subst (λ (t : Status). IsTrue (is_open_leaf t)) e leaf in cc)

-- where all leaves are dead there is no least bound
dead-least : (kept : ProofState) (bound : ℕ) → AllDead kept → IsLeastBound kept bound → ⊥
dead-least kept bound dead least =
    let leaf = any_at (λ (v : Node). IsTrue (is_open_leaf v.status) × (v.bound ≡ bound)) kept.nodes least.reached in
    all-at (λ (v : Node). ¬ IsTrue (is_open_leaf v.status)) kept.nodes leaf.0 leaf.1 dead leaf.2 leaf.3.0

-- least bounds are the same
least-same : (kept : ProofState) (a b : ℕ) → IsLeastBound kept a → IsLeastBound kept b → a ≤ b
least-same kept a b least other =
    let leaf = any_at (λ (v : Node). IsTrue (is_open_leaf v.status) × (v.bound ≡ b)) kept.nodes other.reached in
    let low = all-at (λ (v : Node). IsTrue (is_open_leaf v.status) → a ≤ v.bound) kept.nodes leaf.0 leaf.1 least.least leaf.2 leaf.3.0 in
    let is = leaf.3.1 in
    omega (arith, low, is)

-- ---- what is known at the end
-- what is known of the state
ended-sound : (s : Site) (arcs : List Arc) (n : ℕ) (start : Incumbent) (core : Core) → HasEnded s arcs n start core → IsSound s arcs core.kept
ended-sound s arcs n start core h = sound-accepted s arcs n core.items core.kept h.valid h.are_arcs h.is_core.accepted

-- where the straight layout is legal, a layout is known that costs no more
straight-known : (s : Site) (arcs : List Arc) (n : ℕ) (start : Incumbent) (core : Core) (straight : List Cable) → HasEnded s arcs n start core → IsStraight s straight → IsLegal s straight
    → (cables : List Cable) × (core.known ≡ Some cables) × (cost s cables ≤ cost s straight)
straight-known s arcs n start core straight h is legal = by_start start h.straight h.no_dearer
  where
    by_start : (o : Incumbent) → BeatsStraight s o → IsNoDearer s o core.known → (cables : List Cable) × (core.known ≡ Some cables) × (cost s cables ≤ cost s straight)
    by_start (Part part turbine) beats falls = absurd (beats straight is legal)
    by_start (Known settled) beats falls = (let low : settled.cost ≤ cost s straight = beats straight is legal in (falls.0, falls.1, (let k = falls.2 in omega (arith, low, k))))

-- where some leaf isn't dead and no layout is known, the budget is spent
spent-unknown : (s : Site) (arcs : List Arc) (n : ℕ) (start : Incumbent) (core : Core) (bound : ℕ) → HasEnded s arcs n start core → IsLeastBound core.kept bound → core.known ≡ None → IsSpent s n core
spent-unknown s arcs n start core bound h least unknown = elim h.at_end [
  | inl closed ↦ absurd (dead-least core.kept bound (closed-dead s arcs n core h.is_core closed unknown) least)
  | inr spent ↦ spent
]

-- and where the least bound is below the known cost
spent-below : (s : Site) (arcs : List Arc) (n : ℕ) (start : Incumbent) (core : Core) (known : List Cable) (bound : ℕ) → HasEnded s arcs n start core → IsLeastBound core.kept bound → core.known ≡ Some known
    → bound < cost s known → IsSpent s n core
spent-below s arcs n start core known bound h least e below = elim h.at_end [
  | inl closed ↦ absurd (let low = least-same core.kept (cost s known) bound (closed-least s arcs n core known h.valid h.are_arcs h.is_core closed e) least in omega (arith, low, below))
  | inr spent ↦ spent
]

-- then some arc leads out of each turbine
spent-connected : (s : Site) (arcs : List Arc) (n : ℕ) (start : Incumbent) (core : Core) (bound : ℕ) → HasEnded s arcs n start core → IsLeastBound core.kept bound → IsSpent s n core → HasIsolatedTurbine s → ⊥
spent-connected s arcs n start core bound h least spent isolated =
    dead-least core.kept bound (isolated-dead s arcs n core h.valid h.are_arcs h.is_core isolated (let all = spent.works in let some = h.some in omega (arith, all, some))) least

-- and the least bound is at least that of node 1, as the work on it left it
spent-above : (s : Site) (arcs : List Arc) (n : ℕ) (start : Incumbent) (core : Core) (bound least_bound : ℕ) → HasEnded s arcs n start core → IsLeastBound core.kept bound → IsSpent s n core
    → ((first : Node) → IsFloored s first → (first.status ≡ WasDead) ⊎ (least_bound ≤ first.bound)) → least_bound ≤ bound
spent-above s arcs n start core bound least_bound h least spent floored =
    let begun = begun-worked s arcs n core.items core.kept h.valid h.are_arcs h.is_core.accepted (let all = spent.works in let some = h.some in omega (arith, all, some)) in
    let leaf = any_at (λ (v : Node). IsTrue (is_open_leaf v.status) × (v.bound ≡ bound)) core.kept.nodes least.reached in
    let low = above-first s arcs n least_bound core.items core.kept begun.first h.valid h.are_arcs h.is_core.accepted begun.made begun.is_worked (floored begun.first (h.floored begun.first begun.made begun.is_worked))
    (suc leaf.0) leaf.1 leaf.2 (λ _ dead. dead_leaf leaf.1.status dead leaf.3.0) in
    let is = leaf.3.1 in
    omega (arith, low, is)

-- on a site without bends there is an in-tree then
spent-tree : (s : Site) (arcs : List Arc) (n : ℕ) (start : Incumbent) (core : Core) (bound : ℕ) → HasEnded s arcs n start core → IsLeastBound core.kept bound → IsSpent s n core → HasNoBends s → HasNoInTree s → ⊥
spent-tree s arcs n start core bound h least spent bends none =
    let low : suc bound ≤ bound = spent-above s arcs n start core bound (suc bound) h least spent (λ first floored. inl (floored.no_in_tree bends none)) in
    omega (arith, low)

-- no legal layout costs less than the cheapest in-tree of a site without bends
legal-floor : (s : Site) (cables : List Cable) (least : ℕ) → HasNoBends s → IsLegal s cables → IsFloor s least → least ≤ cost s cables
legal-floor s cables least bends legal is = (let held = legal-in_tree s cables bends legal in let low = is.no_less held.0 held.1 in let most = held.2 in omega (arith, low, most))

-- ---- no layout
-- where all leaves are dead there is no layout
outcome-none : (s : Site) (arcs : List Arc) (n : ℕ) (start : Incumbent) (core : Core) → HasEnded s arcs n start core → AllDead core.kept → IsOutcome s arcs n core.kept [] Infeasible
outcome-none s arcs n start core h dead = record {
  in_order = λ i j d l m. absurd (omega (arith, m));
  agrees = (refl, dead);
  closed = λ enough. tt;
  hopeless = λ isolated. refl;
  settled = tt;
  straight = λ straight is legal. none-sound s arcs core.kept (ended-sound s arcs n start core h) dead straight legal;
  full = λ v node e f. alive v node e f;
  open_small = λ bound stuck e. absurd (cc);
}
  where
    alive : (v : ℕ) (node : Node) → node_of core.kept.nodes v ≡ Some node → node.status ≡ WasFull → ⊥
    alive zero node e f = cc
    alive (suc i) node e f = all-at (λ (v : Node). ¬ IsTrue (is_open_leaf v.status)) core.kept.nodes i node dead e (full_leaf node.status f)

pub concluded-none : (s : Site) (arcs : List Arc) (n : ℕ) (start : Incumbent) (core : Core) (cables : List Cable) (claim : Claim) → HasEnded s arcs n start core → AllDead core.kept → cables ≡ [] → claim ≡ Infeasible
    → IsConcluded s arcs n core core cables claim
concluded-none s arcs n start core cables claim h dead empty is =
    subst (IsConcluded s arcs n core core cables) (sym is) (subst (λ (xs : List Cable). IsConcluded s arcs n core core xs Infeasible) (sym empty) (record {
      last = None;
      settled = λ layout e. absurd (cc);
      ends = refl;
      items = refl;
      outcome = outcome-none s arcs n start core h dead;
      known = λ total none. absurd none;
      floor = tt;
      in_trees = λ bends. tt;
      no_in_tree = λ bends none. refl;
    }))

-- ---- a part
-- where no layout is known and some leaf isn't dead, the part is what was grown
outcome-part : (s : Site) (arcs : List Arc) (n : ℕ) (start : Incumbent) (core : Core) (cables : List Cable) (bound stuck : ℕ) → HasEnded s arcs n start core → IsLeastBound core.kept bound → core.known ≡ None
    → IsStuckPart s cables stuck → IsOutcome s arcs n core.kept cables (Partial bound stuck)
outcome-part s arcs n start core cables bound stuck h least unknown part = record {
  in_order = part.in_order;
  agrees = (part.blocked, (least, spent.works));
  closed = λ enough. absurd (enough-unspent s arcs n core h.valid h.are_arcs h.is_core enough spent);
  hopeless = λ isolated. absurd (spent-connected s arcs n start core bound h least spent isolated);
  settled = tt;
  straight = λ straight is legal. (let known = straight-known s arcs n start core straight h is legal in nothing known.0 known.1);
  full = λ v node e f. (let known = settled-known s arcs n core v node h.is_core e (inr f) in nothing known.0 known.1);
  open_small = λ b k e. (let q : bound ≡ b = cc in let small = least_small s arcs n core bound h.valid h.are_arcs h.is_core least in omega (arith, q, small));
}
  where
    spent : IsSpent s n core
    spent = spent-unknown s arcs n start core bound h least unknown

    nothing : (xs : List Cable) → core.known ≡ Some xs → ⊥
    nothing xs e = (let f : None ≡ Some xs = sym unknown ∙ e in cc)

pub concluded-part : (s : Site) (arcs : List Arc) (n : ℕ) (start : Incumbent) (core : Core) (cables : List Cable) (bound stuck : ℕ) (claim : Claim) → HasEnded s arcs n start core → IsLeastBound core.kept bound
    → core.known ≡ None → IsStuckPart s cables stuck → claim ≡ Partial bound stuck → IsConcluded s arcs n core core cables claim
concluded-part s arcs n start core cables bound stuck claim h least unknown part is =
    subst (IsConcluded s arcs n core core cables) (sym is) (record {
      last = None;
      settled = λ layout e. absurd (cc);
      ends = refl;
      items = refl;
      outcome = outcome-part s arcs n start core cables bound stuck h least unknown part;
      known = λ total none. absurd none;
      floor = λ nearest total. spent-above s arcs n start core bound nearest h least spent (λ first floored. floored.nearest nearest total);
      in_trees = λ bends least_cost is. spent-above s arcs n start core bound least_cost h least spent (λ first floored. floored.in_tree bends least_cost is);
      no_in_tree = λ bends none. absurd (spent-tree s arcs n start core bound h least spent bends none);
    })
  where
    spent : IsSpent s n core
    spent = spent-unknown s arcs n start core bound h least unknown

-- the bound of a part fits
pub part-small : (s : Site) (arcs : List Arc) (n : ℕ) (start : Incumbent) (core : Core) (bound : ℕ) → HasEnded s arcs n start core → IsLeastBound core.kept bound → bound < 2 ^ 63
part-small s arcs n start core bound h least = least_small s arcs n core bound h.valid h.are_arcs h.is_core least

-- ---- a layout
-- where the least bound is below the settled cost the budget is spent
spent-gap : (s : Site) (arcs : List Arc) (n : ℕ) (start : Incumbent) (core : Core) (known cables : List Cable) (total bound : ℕ) → HasEnded s arcs n start core → IsLeastBound core.kept bound → core.known ≡ Some known
    → IsSettledBest s known cables total → bound < total → IsSpent s n core
spent-gap s arcs n start core known cables total bound h least is_known best l = spent-below s arcs n start core known bound h least is_known (let low = best.no_dearer in omega (arith, l, low))

-- the known layout, settled, with the claim that the least bound allows
outcome-settled : (s : Site) (arcs : List Arc) (n : ℕ) (start : Incumbent) (core : Core) (known cables : List Cable) (total bound : ℕ) (claim : Claim) → HasEnded s arcs n start core → IsLeastBound core.kept bound
    → core.known ≡ Some known → IsSettledBest s known cables total → IsClaimedOf total bound claim → IsOutcome s arcs n core.kept cables claim
outcome-settled s arcs n start core known cables total bound claim h least is_known best claimed = by_claim claimed
  where
    below : (xs : List Cable) (b : ℕ) → core.known ≡ Some xs → cost s xs ≤ b → total ≤ b
    below xs b e l =
        let f : Some xs ≡ Some known = sym e ∙ is_known in
        let same : xs ≡ known = cc in
        let costs = ap (cost s) same in
        let low = best.no_dearer in
        omega (arith, l, costs, low)

    straightest : (straight : List Cable) → IsStraight s straight → IsLegal s straight → total ≤ cost s straight
    straightest straight is legal = (let k = straight-known s arcs n start core straight h is legal in below k.0 (cost s straight) k.1 k.2)

    fullest : (v : ℕ) (node : Node) → node_of core.kept.nodes v ≡ Some node → node.status ≡ WasFull → total ≤ node.bound
    fullest v node e f = (let k = settled-known s arcs n core v node h.is_core e (inr f) in below k.0 node.bound k.1 k.2)

    some : HasIsolatedTurbine s → ⊥
    some isolated = HasNone-no_arc s isolated.0 isolated.1 isolated.2 cables best.is_best.legal

    spent : bound < total → IsSpent s n core
    spent l = spent-gap s arcs n start core known cables total bound h least is_known best l

    same : total ≤ bound → bound ≡ total
    same l =
        let low = least-sound s arcs core.kept bound (ended-sound s arcs n start core h) least cables best.is_best.legal in
        let is = best.is_best.cost_is in
        omega (arith, l, low, is)

    by_claim : IsClaimedOf total bound claim → IsOutcome s arcs n core.kept cables claim
    by_claim (inl gap) = subst (IsOutcome s arcs n core.kept cables) (sym gap.1) (record {
      in_order = best.is_best.in_order;
      agrees = ((best.is_best.legal, best.is_best.cost_is), (least, gap.0, (spent gap.0).works));
      closed = λ enough. absurd (enough-unspent s arcs n core h.valid h.are_arcs h.is_core enough (spent gap.0));
      hopeless = λ isolated. absurd (some isolated);
      settled = best.settled;
      straight = straightest;
      full = fullest;
      open_small = λ b stuck e. absurd (cc);
    })
    by_claim (inr all) = subst (IsOutcome s arcs n core.kept cables) (sym all.1) (record {
      in_order = best.is_best.in_order;
      agrees = ((best.is_best.legal, best.is_best.cost_is), subst (IsLeastBound core.kept) (same all.0) least);
      closed = λ enough. tt;
      hopeless = λ isolated. absurd (some isolated);
      settled = best.settled;
      straight = straightest;
      full = fullest;
      open_small = λ b stuck e. absurd (cc);
    })

-- its bound is at least the sum of the cheapest first cables
floor-settled : (s : Site) (arcs : List Arc) (n : ℕ) (start : Incumbent) (core : Core) (known cables : List Cable) (total bound : ℕ) (claim : Claim) → HasEnded s arcs n start core → IsLeastBound core.kept bound
    → core.known ≡ Some known → IsSettledBest s known cables total → IsClaimedOf total bound claim → IsAtLeastFirstCables s claim
floor-settled s arcs n start core known cables total bound claim h least is_known best (inl gap) =
    subst (IsAtLeastFirstCables s) (sym gap.1)
    (λ (nearest : ℕ) (is : IsNearest s nearest). spent-above s arcs n start core bound nearest h least (spent-gap s arcs n start core known cables total bound h least is_known best gap.0) (λ first floored. floored.nearest nearest is))
floor-settled s arcs n start core known cables total bound claim h least is_known best (inr all) =
    subst (IsAtLeastFirstCables s) (sym all.1)
    (λ (nearest : ℕ) (is : IsNearest s nearest). (let low = Least-nearest s nearest is cables best.is_best.legal in let costs = best.is_best.cost_is in omega (arith, low, costs)))

-- and at least the cost of the cheapest in-tree of a site without bends
trees-settled : (s : Site) (arcs : List Arc) (n : ℕ) (start : Incumbent) (core : Core) (known cables : List Cable) (total bound : ℕ) (claim : Claim) → HasEnded s arcs n start core → IsLeastBound core.kept bound
    → core.known ≡ Some known → IsSettledBest s known cables total → IsClaimedOf total bound claim → HasNoBends s → IsAtLeastInTrees s claim
trees-settled s arcs n start core known cables total bound claim h least is_known best (inl gap) bends =
    subst (IsAtLeastInTrees s) (sym gap.1)
    (λ (least_cost : ℕ) (is : IsFloor s least_cost).
    spent-above s arcs n start core bound least_cost h least (spent-gap s arcs n start core known cables total bound h least is_known best gap.0) (λ first floored. floored.in_tree bends least_cost is))
trees-settled s arcs n start core known cables total bound claim h least is_known best (inr all) bends =
    subst (IsAtLeastInTrees s) (sym all.1)
    (λ (least_cost : ℕ) (is : IsFloor s least_cost). (let low = legal-floor s cables least_cost bends best.is_best.legal is in let costs = best.is_best.cost_is in omega (arith, low, costs)))

-- ---- the last layout that is found
-- what is kept is the same
found-kept : (s : Site) (arcs : List Arc) (n : ℕ) (ended core : Core) (cables : List Cable) → Steps s arcs n ended (Found cables) core → (core.items ≡ ended.items) × (core.kept ≡ ended.kept)
found-kept s arcs n ended core cables (inl finds) = (ap (λ (c : Core). c.items) finds.after, ap (λ (c : Core). c.kept) finds.after)
found-kept s arcs n ended core cables (inr nothing) = (ap (λ (c : Core). c.items) nothing.1, ap (λ (c : Core). c.kept) nothing.1)

-- the settled layout is the known one then
found-known : (s : Site) (arcs : List Arc) (n : ℕ) (start : Incumbent) (ended core : Core) (known cables : List Cable) (total : ℕ) → HasEnded s arcs n start ended → ended.known ≡ Some known
    → IsSettledBest s known cables total → Steps s arcs n ended (Found cables) core → core.known ≡ Some cables
found-known s arcs n start ended core known cables total h is_known best (inl finds) = ap (λ (c : Core). c.known) finds.after
found-known s arcs n start ended core known cables total h is_known best (inr nothing) =
    let same : cables ≡ known = best.same not_below (h.in_order known is_known) in
    ap (λ (c : Core). c.known) nothing.1 ∙ is_known ∙ ap Some (sym same)
  where
    not_below : ¬ (total < cost s known)
    not_below below =
        nothing.0
        (best.is_best.legal, subst (λ (o : Option (List Cable)). IsBelowKnown s o (cost s cables)) (sym is_known) (let costs = best.is_best.cost_is in let l : cost s cables < cost s known = omega (arith, below, costs) in l))

pub concluded-settled : (s : Site) (arcs : List Arc) (n : ℕ) (start : Incumbent) (ended core : Core) (known cables : List Cable) (total bound : ℕ) (claim : Claim) → HasEnded s arcs n start ended
    → IsLeastBound ended.kept bound → ended.known ≡ Some known → IsSettledBest s known cables total → IsClaimedOf total bound claim → Steps s arcs n ended (Found cables) core
    → IsConcluded s arcs n ended core cables claim
concluded-settled s arcs n start ended core known cables total bound claim h least is_known best claimed step = record {
  last = Some cables;
  settled = λ layout e. (let same : cables ≡ layout = cc in subst (IsSettled s) same best.settled);
  ends = (core, step, refl);
  items = (found-kept s arcs n ended core cables step).0;
  outcome = subst (λ (kept : ProofState). IsOutcome s arcs n kept cables claim) (sym (found-kept s arcs n ended core cables step).1)
      (outcome-settled s arcs n start ended known cables total bound claim h least is_known best claimed);
  known = λ price has. found-known s arcs n start ended core known cables total h is_known best step;
  floor = floor-settled s arcs n start ended known cables total bound claim h least is_known best claimed;
  in_trees = trees-settled s arcs n start ended known cables total bound claim h least is_known best claimed;
  no_in_tree = λ bends none. absurd (let held = legal-in_tree s cables bends best.is_best.legal in none held.0 held.1);
}
