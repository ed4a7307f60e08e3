-- What works and steps leave.
use Rattle.std.proofs.Common.{◌≡◌, ℕ, zero, suc, ◌≤◌, ◌<◌, ◌⊎◌, inl, inr, ℤ, List, [], ◌∷◌, ◌++◌, length, drop, slice_get, Some, None, Option, Result, Ok, All, refl, sym, ◌∙◌, ap, subst, arith, append_assoc}
use Rattle.std.specs.Prelude.{slice_set}
use Rattle.std.proofs.lemmas.List.{append-nil, length-map}
use Rattle.std.specs.List.{enumerate_from}
use Rattle.std.proofs.lemmas.List.FromFn.{length-enumerate_from}
use Rattle.std.proofs.Math.Seq.{drop-append_seam}
use Rattle.cable_definitions.specs.declared.cable.Arc.{Arc}
use Rattle.cable_definitions.specs.declared.cable.Cable.{Cable}
use Rattle.cable_definitions.specs.declared.row.Mark.{Mark}
use Rattle.cable_definitions.specs.declared.row.Act.{Act}
use Rattle.cable_definitions.specs.declared.row.Act.TheVariants.{Split, Stop, Dead, Full}
use Rattle.cable_definitions.specs.Site.{Site}
use Rattle.cable_definitions.specs.Layout.{cost}
use Rattle.cable_definitions.specs.Row.{Row, IsWellFormed}
use Rattle.cable_definitions.specs.Tree.{WasSplit, Stopped, WasDead, WasFull, Node, Item, WorkItem, ProofState, node_of, marks_of, mark_in, worked, IsActed, IsWorked}
use Rattle.cable_definitions.specs.Core.{Core, Event, Take, Work, Found, are_row_items, IsBelowKnown, IsChosen, IsPossible, KnownAfter, Takes, Works, Finds}
use Rattle.branch_tree.specs.State.{status_after}
use Rattle.proof_laws.proofs.Boxes.{set_here, append_left}
use Rattle.proof_laws.proofs.Sound.{sound-accepted, children, set_at_node}
use Rattle.search_progress.specs.Lists.{Lists}
use Rattle.search_progress.specs.Chosen.{IsBeaten, IsActFor}
use Rattle.search_progress.specs.Progress.{kept_of, known_by, core_of, IsKnown, IsSearching}
use Rattle.search_core.specs.Works.{items_since}
use Rattle.search_core.specs.Steps.{Did}
use Rattle.search_core.specs.declared.machine.Step.{Step}
use Rattle.search_core.specs.declared.machine.Step.TheVariants.{Nothing, Took, Kept, Worked}
use Rattle.search_progress.specs.declared.progress.Progress.{Progress}
use Rattle.search_progress.proofs.RowsListed.{leads-then}
use Rattle.search_core.proofs.Listing.{lists-nothing, lists-points}

-- ---- nodes that are worked
-- a node that is worked is made still
made-acted : (s : Site) (arcs : List Arc) (old : ProofState) (i : ℕ) (node : Node) (value : ℤ) (act : Act) (nodes : List Node) → slice_get old.nodes i ≡ Some node
    → IsActed s arcs old (suc i) node value act nodes → (made : Node) × (slice_get nodes i ≡ Some made) × (made.status ≡ status_after act)
made-acted s arcs old i node value (Split a) nodes e acted =
    let y = worked node acted.0 WasSplit in (
      y,
      subst (λ (xs : List Node). slice_get xs i ≡ Some y) (sym (acted.3 ∙ ap (λ xs. xs ++ children (suc i) acted.0 a) (set_at_node i old.nodes y)))
          (append_left (slice_set old.nodes i y) (children (suc i) acted.0 a) i y (set_here old.nodes i node y e)),
      refl,
    )
made-acted s arcs old i node value Stop nodes e acted =
    let y = worked node acted.0 Stopped in
    (y, subst (λ (xs : List Node). slice_get xs i ≡ Some y) (sym (acted.2 ∙ set_at_node i old.nodes y)) (set_here old.nodes i node y e), refl)
made-acted s arcs old i node value (Dead why) nodes e acted =
    let y = worked node acted.0 WasDead in
    (y, subst (λ (xs : List Node). slice_get xs i ≡ Some y) (sym (acted.3 ∙ set_at_node i old.nodes y)) (set_here old.nodes i node y e), refl)
made-acted s arcs old i node value Full nodes e acted =
    let y = worked node (cost s acted.0) WasFull in
    (y, subst (λ (xs : List Node). slice_get xs i ≡ Some y) (sym (acted.2 ∙ set_at_node i old.nodes y)) (set_here old.nodes i node y e), refl)

pub made-worked : (s : Site) (arcs : List Arc) (n : ℕ) (old : ProofState) (v : ℕ) (weights : List (ℕ × ℤ)) (act : Act) (new : ProofState) → IsWorked s arcs n old v weights act new
    → (made : Node) × (node_of new.nodes v ≡ Some made) × (made.status ≡ status_after act)
made-worked s arcs n old zero weights act new w = absurd (let e = w.made in cc)
made-worked s arcs n old (suc i) weights act new w = made-acted s arcs old i w.node w.value act new.nodes w.made w.acted

-- ---- acts that are chosen
-- a bound below the known cost
below_known : (s : Site) (known : Option ℕ) (best : List Cable) (bound : ℕ) → IsKnown s best known → ¬ (IsBeaten known bound) → IsBelowKnown s (known_by known best) bound
below_known s None best bound k h = tt
below_known s (Some total) best bound k h = elim (either total bound) [
  | inl l ↦ absurd (h l)
  | inr g ↦ (let same = k.1 in omega (arith, g, same))
]
  where
    either : (x y : ℕ) → (x ≤ y) ⊎ (y < x)
    either x y = grind arith

-- an act that may be done is one that may be chosen
pub is-chosen : (s : Site) (arcs : List Arc) (kept : ProofState) (known : Option ℕ) (best : List Cable) (weights : List (ℕ × ℤ)) (marks : List Mark) (bound after : ℕ) (act : Act)
    → IsKnown s best known → IsActFor s arcs kept.rows marks known weights bound act after → IsChosen s arcs kept (known_by known best) weights marks after act
is-chosen s arcs kept known best weights marks bound after (Split a) k chosen =
    let same : bound ≡ after = sym chosen.1 in
    subst (λ (b : ℕ). IsChosen s arcs kept (known_by known best) weights marks b (Split a)) same
    (chosen.2.alive, chosen.2.not_full, below_known s known best bound k chosen.2.below, chosen.3)
is-chosen s arcs kept None best weights marks bound after Stop k chosen = absurd chosen.0
is-chosen s arcs kept (Some total) best weights marks bound after Stop k chosen =
    (best, refl, (let same = k.1 in let low = chosen.0 in let e = chosen.1 in omega (arith, same, low, e)))
is-chosen s arcs kept known best weights marks bound after (Dead why) k chosen = tt
is-chosen s arcs kept known best weights marks bound after Full k chosen = tt

-- each arc has a mark
length-marks : (arcs : List Arc) (nodes : List Node) (v : ℕ) → length (marks_of arcs nodes v) ≡ length arcs
length-marks arcs nodes v = length-map (enumerate_from 0 arcs) (λ (x : ℕ × Arc). mark_in v nodes x.0 v) ∙ length-enumerate_from 0 arcs

-- so as many as before
pub count-marks : (s : Site) (arcs : List Arc) (n : ℕ) (p : Progress) (v : ℕ) (marks : List Mark) → IsSearching s arcs n p
    → ((all : List Arc) → length all ≡ p.tree.arcs → marks ≡ marks_of all p.tree.nodes v) → length marks ≡ length arcs
count-marks s arcs n p v marks h is = ap length (is arcs (sym h.arcs_count)) ∙ length-marks arcs p.tree.nodes v

-- all listed rows are well formed
pub all-well_formed : (s : Site) (arcs : List Arc) (n : ℕ) (p : Progress) → IsSearching s arcs n p → All (IsWellFormed s arcs) p.pool
all-well_formed s arcs n p h = (sound-accepted s arcs n h.items (kept_of p) h.valid h.are_arcs h.accepted).well_formed

-- ---- works
-- a search goes on where rows were listed
pub searching-listed : (s : Site) (arcs : List Arc) (n : ℕ) (p q : Progress) → q ≡ record p { pool = q.pool; decisions = q.decisions; work = q.work; last = q.last } → length q.decisions ≡ length arcs
    → Lists s arcs p.pool q.pool → IsSearching s arcs n p → IsSearching s arcs n q
searching-listed s arcs n p q is marks lists h =
    subst (λ (x : Progress). IsSearching s arcs n x) (sym is) (record {
      valid = h.valid;
      are_arcs = h.are_arcs;
      some = h.some;
      most = h.most;
      limit = h.limit;
      ceiling_is = h.ceiling_is;
      budget = h.budget;
      arcs_count = h.arcs_count;
      marks_count = marks;
      room = h.room;
      few = h.few;
      items = h.items ++ are_row_items lists.rows;
      accepted = leads-then s arcs n _ (kept_of p) _ h.items (are_row_items lists.rows) h.accepted (lists.accepted n (kept_of p) refl);
      rows = lists-points s arcs p.pool q.pool lists h.rows;
      are_open = h.are_open;
      held = h.held;
      apart = h.apart;
      few_lanes = h.few_lanes;
      within = h.within;
      known = h.known;
    })

-- the rows behind others
drop_behind : (old rows new : List Row) → new ≡ old ++ rows → drop (length old) new ≡ rows
drop_behind old rows new e = ap (drop (length old)) e ∙ drop-append_seam old rows

-- what a node's work is in the search's definitions: rows are listed, and then an act is done that may be chosen
pub is-works : (s : Site) (arcs : List Arc) (n : ℕ) (items : List Item) (p q : Progress) (pool : List Row) (marks : List Mark) (weights : List (ℕ × ℤ)) (lane node bound after : ℕ) (act : Act)
    → IsKnown s p.best p.known → Lists s arcs p.pool pool → slice_get p.lanes.items lane ≡ Some (Some node) → marks ≡ marks_of arcs p.tree.nodes node
    → IsActFor s arcs pool marks p.known weights bound act after
    → IsWorked s arcs n (record { rows = pool; nodes = p.tree.nodes; works = p.tree.works }) node weights act (kept_of q)
    → ((made : Node) → node_of q.tree.nodes node ≡ Some made → made.bound ≡ after)
    → KnownAfter s act arcs marks (known_by p.known p.best) (known_by q.known q.best)
    → q.lanes.items ≡ slice_set p.lanes.items lane None → q.pool ≡ pool → q.work.weights ≡ weights → q.work.node ≡ node → q.work.act ≡ act
    → Works s arcs n (core_of items p) lane (core_of (items ++ items_since p q) q)
is-works s arcs n items p q pool marks weights lane node bound after act known lists held same chosen work made known_after lanes same_pool same_weights same_node same_act =
    let listed : ProofState = record { rows = pool; nodes = p.tree.nodes; works = p.tree.works } in
    let there = made-worked s arcs n listed node weights act (kept_of q) work in
    record {
      node = node;
      held = held;
      rows = lists.rows;
      listed = listed;
      rows_accepted = lists.accepted n (kept_of p) refl;
      weights = weights;
      act = act;
      kept = kept_of q;
      work_accepted = work;
      worked = there.0;
      worked_is = there.1;
      chosen =
          subst (λ (b : ℕ). IsChosen s arcs listed (known_by p.known p.best) weights (marks_of arcs p.tree.nodes node) b act) (sym (made there.0 there.1))
          (is-chosen s arcs listed p.known p.best weights (marks_of arcs p.tree.nodes node) bound after act known
          (subst (λ (ms : List Mark). IsActFor s arcs pool ms p.known weights bound act after) same chosen));
      known = known_by q.known q.best;
      known_after = subst (λ (ms : List Mark). KnownAfter s act arcs ms (known_by p.known p.best) (known_by q.known q.best)) same known_after;
      after = λ i. record { items = behind i; kept = kept_of q; lanes = lanes i; known = known_by q.known q.best };
    }
  where
    same_rows : are_row_items (drop (length p.pool) q.pool) ≡ are_row_items lists.rows
    same_rows = ap are_row_items (drop_behind p.pool lists.rows q.pool (same_pool ∙ lists.behind))

    same_items : items_since p q ≡ are_row_items lists.rows ++ WorkItem node weights act ∷ []
    same_items = λ i. same_rows i ++ WorkItem (same_node i) (same_weights i) (same_act i) ∷ []

    behind : items ++ items_since p q ≡ items ++ are_row_items lists.rows ++ WorkItem node weights act ∷ []
    behind = ap (λ (more : List Item). items ++ more) same_items ∙ sym (append_assoc items (are_row_items lists.rows) (WorkItem node weights act ∷ []))

-- ---- steps
-- a lane takes a node: no row is listed
pub takes-pool : (s : Site) (arcs : List Arc) (n : ℕ) (items : List Item) (lane : ℕ) (p q : Progress) → Takes s n (core_of items p) lane (core_of items q) → Lists s arcs p.pool q.pool
takes-pool s arcs n items lane p q takes = lists-nothing s arcs p.pool q.pool (ap (λ (c : Core). c.kept.rows) takes.after)

-- a layout is found: no row is listed
pub finds-pool : (s : Site) (arcs : List Arc) (items : List Item) (cables : List Cable) (p q : Progress) → Finds s (core_of items p) cables (core_of items q) → Lists s arcs p.pool q.pool
finds-pool s arcs items cables p q finds = lists-nothing s arcs p.pool q.pool (ap (λ (c : Core). c.kept.rows) finds.after)

-- the same with no item more
same-items : (p q : Progress) (items : List Item) → core_of items q ≡ core_of (items ++ []) q
same-items p q items = ap (λ (all : List Item). core_of all q) (sym (append-nil items))

-- nothing was done
pub did-nothing : (s : Site) (arcs : List Arc) (n : ℕ) (p q : Progress) (event : Event) → ((items : List Item) → ¬ (IsPossible s n (core_of items p) event)) → q ≡ p → Did s arcs n p event q Nothing
did-nothing s arcs n p q event impossible same = record {
  nothing = λ e. impossible;
  same = λ e. same;
  happens = λ other. absurd (other refl);
  took = λ v e. absurd (cc);
  kept = λ e. absurd (cc);
  worked = λ from to e. absurd (cc);
}

-- a lane took a node
pub did-take : (s : Site) (arcs : List Arc) (n : ℕ) (p q : Progress) (lane v : ℕ) → ((items : List Item) → Takes s n (core_of items p) lane (core_of items q))
    → slice_get q.lanes.items lane ≡ Some (Some v) → Did s arcs n p (Take lane) q (Took v)
did-take s arcs n p q lane v takes held = record {
  nothing = λ e. absurd (cc);
  same = λ e. absurd (cc);
  happens = λ other items. subst (Takes s n (core_of items p) lane) (same-items p q items) (takes items);
  took = λ w e. (lane, refl, held ∙ ap (λ (u : ℕ). Some (Some u)) (took_is w e));
  kept = λ e. absurd (cc);
  worked = λ from to e. absurd (cc);
}
  where
    took_is : (w : ℕ) → Took v ≡ Took w → v ≡ w
    took_is w e = cc

-- a layout became the known one
pub did-keep : (s : Site) (arcs : List Arc) (n : ℕ) (p q : Progress) (cables : List Cable) → ((items : List Item) → Finds s (core_of items p) cables (core_of items q)) → Did s arcs n p (Found cables) q Kept
did-keep s arcs n p q cables finds = record {
  nothing = λ e. absurd (cc);
  same = λ e. absurd (cc);
  happens = λ other items. subst (Finds s (core_of items p) cables) (same-items p q items) (finds items);
  took = λ w e. absurd (cc);
  kept = λ e. (cables, refl);
  worked = λ from to e. absurd (cc);
}

-- a lane's node was worked
pub did-work : (s : Site) (arcs : List Arc) (n : ℕ) (p q : Progress) (lane from to : ℕ) → ((items : List Item) → Works s arcs n (core_of items p) lane (core_of (items ++ items_since p q) q))
    → from ≡ length p.pool → to ≡ length q.pool → Did s arcs n p (Work lane) q (Worked from to)
did-work s arcs n p q lane from to works first last = record {
  nothing = λ e. absurd (cc);
  same = λ e. absurd (cc);
  happens = λ other items. works items;
  took = λ w e. absurd (cc);
  kept = λ e. absurd (cc);
  worked = λ a b e. (lane, refl, sym (first_is a b e) ∙ first, sym (last_is a b e) ∙ last);
}
  where
    first_is : (a b : ℕ) → Worked from to ≡ Worked a b → from ≡ a
    first_is a b e = cc

    last_is : (a b : ℕ) → Worked from to ≡ Worked a b → to ≡ b
    last_is a b e = cc

-- no node is worked on another event
pub never-by_take : (s : Site) (arcs : List Arc) (n : ℕ) (p q : Progress) (lane : ℕ) (step : Step) (from to : ℕ) → Did s arcs n p (Take lane) q step → step ≡ Worked from to → ⊥
never-by_take s arcs n p q lane step from to did e = (let w = did.worked from to e in let f = w.1 in cc)

pub never-by_found : (s : Site) (arcs : List Arc) (n : ℕ) (p q : Progress) (cables : List Cable) (step : Step) (from to : ℕ) → Did s arcs n p (Found cables) q step → step ≡ Worked from to → ⊥
never-by_found s arcs n p q cables step from to did e = (let w = did.worked from to e in let f = w.1 in cc)

-- the value of a result
pub ok-value : {E : Type 0} → (x y : Step) → ◌≡◌ {A = Result Step E} (Ok x) (Ok y) → x ≡ y
ok-value x y e = cc
