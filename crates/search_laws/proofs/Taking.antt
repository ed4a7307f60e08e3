-- A lane takes a node.
use Rattle.std.proofs.Common.{◌≡◌, ◌≢◌, ℕ, ◌⊎◌, inl, inr, List, slice_get, Some, None, Option, sym, ◌∙◌, ap, subst, arith}
use Rattle.std.specs.Prelude.{slice_set}
use Rattle.cable_definitions.specs.declared.cable.Arc.{Arc}
use Rattle.cable_definitions.specs.Site.{Site}
use Rattle.cable_definitions.specs.Tree.{Node}
use Rattle.cable_definitions.specs.Core.{Core, IsOpen, Takes}
use Rattle.proof_laws.specs.WorksLeft.{IsUnworked}
use Rattle.proof_laws.proofs.Boxes.{set_either}
use Rattle.search_laws.specs.Cores.{AreHeldUnworked, AreHeldApart, IsCore}
use Rattle.search_laws.proofs.Lanes.{holding-set, held_somewhere}

-- an empty lane takes an unworked node
take-unworked : (nodes : List Node) (lanes : List (Option ℕ)) (lane v : ℕ) → slice_get lanes lane ≡ Some None → IsUnworked nodes v → AreHeldUnworked nodes lanes
    → AreHeldUnworked nodes (slice_set lanes lane (Some v))
take-unworked nodes lanes lane v empty is held j u e = elim (set_either lanes lane (Some v) None empty j (Some u) e) [
  | inl r ↦ (let f : Some v ≡ Some u = r.1 in let same : v ≡ u = cc in subst (IsUnworked nodes) same is)
  | inr r ↦ held j u r.1
]

-- which no other holds
take-apart : (lanes : List (Option ℕ)) (lane v : ℕ) → slice_get lanes lane ≡ Some None → ((i : ℕ) → slice_get lanes i ≡ Some (Some v) → ⊥) → AreHeldApart lanes → AreHeldApart (slice_set lanes lane (Some v))
take-apart lanes lane v empty free apart i j u e f = by_place (set_either lanes lane (Some v) None empty i (Some u) e) (set_either lanes lane (Some v) None empty j (Some u) f)
  where
    taken : (k : ℕ) → ◌≡◌ {A = Option ℕ} (Some v) (Some u) → slice_get lanes k ≡ Some (Some u) → ⊥
    taken k q g = free k (let same : v ≡ u = cc in g ∙ ap (λ (x : ℕ). Some (Some x)) (sym same))

    by_place : ((i ≡ lane) × (Some v ≡ Some u)) ⊎ ((i ≢ lane) × (slice_get lanes i ≡ Some (Some u))) → ((j ≡ lane) × (Some v ≡ Some u)) ⊎ ((j ≢ lane) × (slice_get lanes j ≡ Some (Some u))) → i ≡ j
    by_place (inl a) (inl b) = a.0 ∙ sym b.0
    by_place (inl a) (inr b) = absurd (taken j a.1 b.1)
    by_place (inr a) (inl b) = absurd (taken i b.1 a.1)
    by_place (inr a) (inr b) = apart i j u a.1 b.1

-- the state after a take
pub take-core : (s : Site) (arcs : List Arc) (n : ℕ) (old : Core) (lane : ℕ) (new : Core) → IsCore s arcs n old → Takes s n old lane new → IsCore s arcs n new
take-core s arcs n old lane new core takes =
    let v : ℕ = takes.node in
    let is : IsOpen old v = takes.wanted.is_open in
    let count = holding-set old.lanes lane None (Some v) takes.empty in
    let left = takes.budget in
    subst (IsCore s arcs n) (sym takes.after) (record {
      accepted = core.accepted;
      rows = core.rows;
      held_unworked = take-unworked old.kept.nodes old.lanes lane v takes.empty (is.node, is.made, is.unworked) core.held_unworked;
      held_apart = take-apart old.lanes lane v takes.empty (λ i e. is.not_held (held_somewhere old.lanes i v e)) core.held_apart;
      legal = core.legal;
      budget = omega (arith, count, left);
      beaten = core.beaten;
      capped = core.capped;
      alone = core.alone;
    })
