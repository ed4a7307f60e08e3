-- Node 1 is worked before any other.
use Rattle.std.proofs.Common.{◌≡◌, ◌≢◌, ℕ, zero, suc, ◌⊎◌, inl, inr, ℤ, List, [], ◌∷◌, ◌++◌, slice_get, Some, refl, sym, ◌∙◌, ap, subst, arith}
use Rattle.std.specs.Prelude.{slice_set}
use Rattle.cable_definitions.specs.declared.cable.Arc.{Arc}
use Rattle.cable_definitions.specs.declared.cable.Cable.{Cable}
use Rattle.cable_definitions.specs.declared.row.Act.{Act}
use Rattle.cable_definitions.specs.declared.row.Act.TheVariants.{Split, Stop, Dead, Full}
use Rattle.cable_definitions.specs.Site.{Site}
use Rattle.cable_definitions.specs.Layout.{cost}
use Rattle.cable_definitions.specs.Tree.{Unworked, WasSplit, Stopped, WasDead, WasFull, Node, Item, RowItem, WorkItem, ProofState, root, empty_state, node_of, worked, IsActed, IsWorked, Leads}
use Rattle.cable_definitions.specs.Core.{Core, Takes, Finds}
use Rattle.branch_tree.specs.State.{status_after}
use Rattle.proof_laws.proofs.Boxes.{set_other, append_left}
use Rattle.proof_laws.proofs.Sound.{children, set_at_node}
use Rattle.search_progress.specs.Lists.{AreFew}
use Rattle.search_progress.specs.Progress.{kept_of, core_of, HasFirstRoom, IsSearching}
use Rattle.search_progress.specs.declared.progress.Progress.{Progress}
use Rattle.search_core.proofs.Stepping.{made-worked}

-- no node is worked and node 1 alone is made, or node 1 is worked
abbrev IsBegun : ProofState → Type 0
IsBegun kept = ((kept.works ≡ 0) × (kept.nodes ≡ root ∷ [])) ⊎ ((x : Node) × (slice_get kept.nodes 0 ≡ Some x) × (x.status ≢ Unworked))

-- ---- works
-- a worked node has another status
acts-other : (act : Act) → status_after act ≢ Unworked
acts-other (Split a) e = cc
acts-other Stop e = cc
acts-other (Dead why) e = cc
acts-other Full e = cc

-- the first node stays as it is where another is worked
first-set : (nodes : List Node) (i : ℕ) (y x : Node) → slice_get nodes 0 ≡ Some x → slice_get (slice_set nodes (suc i) y) 0 ≡ Some x
first-set nodes i y x e = set_other nodes (suc i) 0 y (λ f. cc) ∙ e

first-acted : (s : Site) (arcs : List Arc) (old : ProofState) (i : ℕ) (node : Node) (value : ℤ) (act : Act) (nodes : List Node) (x : Node) → slice_get old.nodes 0 ≡ Some x
    → IsActed s arcs old (suc (suc i)) node value act nodes → slice_get nodes 0 ≡ Some x
first-acted s arcs old i node value (Split a) nodes x e acted =
    let y = worked node acted.0 WasSplit in
    subst (λ (xs : List Node). slice_get xs 0 ≡ Some x) (sym (acted.3 ∙ ap (λ xs. xs ++ children (suc (suc i)) acted.0 a) (set_at_node (suc i) old.nodes y)))
    (append_left (slice_set old.nodes (suc i) y) (children (suc (suc i)) acted.0 a) 0 x (first-set old.nodes i y x e))
first-acted s arcs old i node value Stop nodes x e acted =
    let y = worked node acted.0 Stopped in
    subst (λ (xs : List Node). slice_get xs 0 ≡ Some x) (sym (acted.2 ∙ set_at_node (suc i) old.nodes y)) (first-set old.nodes i y x e)
first-acted s arcs old i node value (Dead why) nodes x e acted =
    let y = worked node acted.0 WasDead in
    subst (λ (xs : List Node). slice_get xs 0 ≡ Some x) (sym (acted.3 ∙ set_at_node (suc i) old.nodes y)) (first-set old.nodes i y x e)
first-acted s arcs old i node value Full nodes x e acted =
    let y = worked node (cost s acted.0) WasFull in
    subst (λ (xs : List Node). slice_get xs 0 ≡ Some x) (sym (acted.2 ∙ set_at_node (suc i) old.nodes y)) (first-set old.nodes i y x e)

-- the first work is that of node 1
begun-worked : (s : Site) (arcs : List Arc) (n : ℕ) (old : ProofState) (v : ℕ) (weights : List (ℕ × ℤ)) (act : Act) (new : ProofState) → IsWorked s arcs n old v weights act new → IsBegun old → IsBegun new
begun-worked s arcs n old zero weights act new w begun = absurd (let e = w.made in cc)
begun-worked s arcs n old (suc zero) weights act new w begun =
    let there = made-worked s arcs n old 1 weights act new w in
    inr (there.0, there.1, λ e. acts-other act (sym there.2 ∙ e))
begun-worked s arcs n old (suc (suc i)) weights act new w (inl fresh) =
    let here : slice_get (root ∷ []) (suc i) ≡ Some w.node = ap (λ (xs : List Node). slice_get xs (suc i)) (sym fresh.1) ∙ w.made in
    absurd (cc)
begun-worked s arcs n old (suc (suc i)) weights act new w (inr first) = inr (first.0, first-acted s arcs old i w.node w.value act new.nodes first.0 first.1 w.acted, first.2)

begun-leads : (s : Site) (arcs : List Arc) (n : ℕ) (items : List Item) (old new : ProofState) → Leads s arcs n old items new → IsBegun old → IsBegun new
begun-leads s arcs n [] old new l begun = subst IsBegun (sym l) begun
begun-leads s arcs n (RowItem row ∷ items) old new l begun = begun-leads s arcs n items l.0 new l.2 (by_row begun)
  where
    by_row : IsBegun old → IsBegun l.0
    by_row (inl fresh) = inl (l.1.works ∙ fresh.0, l.1.nodes ∙ fresh.1)
    by_row (inr first) = inr (first.0, ap (λ (xs : List Node). slice_get xs 0) l.1.nodes ∙ first.1, first.2)
begun-leads s arcs n (WorkItem v weights act ∷ items) old new l begun = begun-leads s arcs n items l.0 new l.2 (begun-worked s arcs n old v weights act l.0 l.1 begun)

-- ---- room
-- there is room for the rows of node 1 where it is worked
pub room-first : (s : Site) (arcs : List Arc) (n : ℕ) (p : Progress) (lane v : ℕ) → IsSearching s arcs n p → slice_get p.lanes.items lane ≡ Some (Some v) → HasFirstRoom p → v ≡ 1 → AreFew p.pool 768
room-first s arcs n p lane v h holds room first = elim (begun-leads s arcs n h.items empty_state (kept_of p) h.accepted (inl (refl, refl))) [
  | inl fresh ↦ room fresh.0
  | inr x ↦
      let held = h.held lane v holds in
      let there : node_of p.tree.nodes 1 ≡ Some held.0 = ap (node_of p.tree.nodes) (sym first) ∙ held.1 in
      let both : Some x.0 ≡ Some held.0 = sym x.1 ∙ there in
      let one : x.0 ≡ held.0 = cc in
      absurd (x.2 (ap (λ (k : Node). k.status) one ∙ held.2))
]

-- a lane takes a node: the rows stay
pub room-takes : (s : Site) (n : ℕ) (items : List Item) (lane : ℕ) (p q : Progress) → Takes s n (core_of items p) lane (core_of items q) → HasFirstRoom p → HasFirstRoom q
room-takes s n items lane p q takes room none =
    let kept = ap (λ (c : Core). c.kept) takes.after in
    subst (λ (k : ProofState). AreFew k.rows 768) (sym kept) (room (sym (ap (λ (k : ProofState). k.works) kept) ∙ none))

-- a layout is found: the rows stay
pub room-finds : (s : Site) (items : List Item) (cables : List Cable) (p q : Progress) → Finds s (core_of items p) cables (core_of items q) → HasFirstRoom p → HasFirstRoom q
room-finds s items cables p q finds room none =
    let kept = ap (λ (c : Core). c.kept) finds.after in
    subst (λ (k : ProofState). AreFew k.rows 768) (sym kept) (room (sym (ap (λ (k : ProofState). k.works) kept) ∙ none))

-- a node is worked: node 1 is, then
pub room-worked : (s : Site) (arcs : List Arc) (n : ℕ) (old : ProofState) (v : ℕ) (weights : List (ℕ × ℤ)) (act : Act) (q : Progress) → IsWorked s arcs n old v weights act (kept_of q) → HasFirstRoom q
room-worked s arcs n old v weights act q w none = absurd (let more = w.works in omega (arith, more, none))
