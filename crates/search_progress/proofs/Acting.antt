-- An act on a node that a lane holds, and what is so after it.
use Rattle.std.proofs.Common.{◌≡◌, ◌≢◌, ℕ, ◌+◌, ◌-◌, ◌<◌, ◌≤◌, inl, inr, ◌^◌, ℤ, pos, ◌≤ℤ◌, ◌<ℤ◌, List, [], ◌∷◌, ◌++◌, length, slice_get, Some, None, Option, count_by, refl, sym, ◌∙◌, ap, subst, arith, length-append, vec_capacity}
use Rattle.std.specs.Prelude.{nat_abs, slice_set}
use Rattle.std.specs.List.Sorted.{IsPermutation}
use Rattle.std.specs.Int.{w128}
use mir.Val.{to_z, of_z}
use Rattle.std.proofs.Math.ListN.{length-set}
use Rattle.std.proofs.lemmas.List.Sorted.{length_permutation}
use Rattle.cable_definitions.specs.declared.cable.Cable.{Cable}
use Rattle.cable_definitions.specs.declared.cable.Arc.{Arc}
use Rattle.cable_definitions.specs.declared.row.Mark.{Mark}
use Rattle.cable_definitions.specs.declared.row.Act.{Act}
use Rattle.cable_definitions.specs.declared.row.Act.TheVariants.{Split, Stop, Dead, Full}
use Rattle.cable_definitions.specs.Site.{Site}
use Rattle.cable_definitions.specs.Layout.{cost}
use Rattle.cable_definitions.specs.Row.{Row}
use Rattle.cable_definitions.specs.Choice.{AreLawful, IsValue}
use Rattle.cable_definitions.specs.Tree.{Unworked, WasDead, WasFull, Node, WorkItem, ProofState, node_of, marks_of, worked, IsBound, IsActed, IsWorked}
use Rattle.cable_definitions.specs.Core.{KnownAfter, is_holding}
use Rattle.branch_tree.specs.declared.tree.TreeFault.{TreeFault}
use Rattle.branch_tree.specs.declared.tree.TreeFault.TheVariants.{Budget, Unmade, Worked}
use Rattle.branch_tree.specs.State.{TreeState, tree_after, nodes_after}
use Rattle.proof_laws.proofs.FullNodes.{full-one}
use Rattle.proof_laws.specs.Decided.{HasPointRows}
use Rattle.search_progress.specs.Chosen.{IsActFor, IsNodeBound, IsBeaten}
use Rattle.search_progress.specs.Progress.{kept_of, known_by, AreOpen, AreHeld, AreApart, IsKnown, UpdatesIncumbent, IsSearching}
use Rattle.search_progress.specs.declared.progress.Progress.{Progress}
use Rattle.search_progress.proofs.RowsListed.{leads-then}
use Rattle.search_progress.proofs.OpenFirst.{passed}
use Rattle.search_progress.proofs.OpenList.{open_after, open-after, open-permuted, bound-after, held-after}
use Rattle.search_progress.proofs.HeldLanes.{below-known, not-below, held-set, held-some, apart-given, nobody}

-- ---- the known layout
-- the same under equal names
known-same : (s : Site) (old new : Option ℕ) (cables new_cables : List Cable) → new ≡ old → new_cables ≡ cables → IsKnown s cables old → IsKnown s new_cables new
known-same s old new cables new_cables e f k = subst (λ (o : Option ℕ). IsKnown s new_cables o) (sym e) (subst (λ (xs : List Cable). IsKnown s xs old) (sym f) k)

-- an act leaves the cost of a legal layout known
known-kept : (s : Site) (arcs : List Arc) (rows : List Row) (marks : List Mark) (weights : List (ℕ × ℤ)) (act : Act) (bound after : ℕ) (known new_known : Option ℕ) (best new_best : List Cable) → IsKnown s best known
    → IsActFor s arcs rows marks known weights bound act after → UpdatesIncumbent s arcs marks act after known best new_known new_best → IsKnown s new_best new_known
known-kept s arcs rows marks weights (Split a) bound after known new_known best new_best k chosen updates = known-same s known new_known best new_best updates.0 updates.1 k
known-kept s arcs rows marks weights Stop bound after known new_known best new_best k chosen updates = known-same s known new_known best new_best updates.0 updates.1 k
known-kept s arcs rows marks weights (Dead why) bound after known new_known best new_best k chosen updates = known-same s known new_known best new_best updates.0 updates.1 k
known-kept s arcs rows marks weights Full bound after known new_known best new_best k chosen (inl keeps) = known-same s known new_known best new_best keeps.1 keeps.2 k
known-kept s arcs rows marks weights Full bound after known new_known best new_best k chosen (inr takes) =
    subst (λ (o : Option ℕ). IsKnown s new_best o) (sym takes.1) (takes.2.legal, ap (cost s) (full-one s arcs marks new_best chosen.0 takes.2 chosen.1) ∙ sym chosen.2)

-- the known layout under equal names
known-names : (old new : Option ℕ) (best new_best : List Cable) → new ≡ old → new_best ≡ best → known_by new new_best ≡ known_by old best
known-names old new best new_best e f = λ i. known_by (e i) (f i)

-- an act makes the layout of a full node the known one where it is cheaper or none was known
known-after : (s : Site) (arcs : List Arc) (rows : List Row) (marks : List Mark) (weights : List (ℕ × ℤ)) (act : Act) (bound after : ℕ) (known new_known : Option ℕ) (best new_best : List Cable) → IsKnown s best known
    → IsActFor s arcs rows marks known weights bound act after → UpdatesIncumbent s arcs marks act after known best new_known new_best → KnownAfter s act arcs marks (known_by known best) (known_by new_known new_best)
known-after s arcs rows marks weights (Split a) bound after known new_known best new_best k chosen updates = known-names known new_known best new_best updates.0 updates.1
known-after s arcs rows marks weights Stop bound after known new_known best new_best k chosen updates = known-names known new_known best new_best updates.0 updates.1
known-after s arcs rows marks weights (Dead why) bound after known new_known best new_best k chosen updates = known-names known new_known best new_best updates.0 updates.1
known-after s arcs rows marks weights Full bound after known new_known best new_best k chosen (inl keeps) = (
  chosen.0,
  chosen.1,
  inr ((λ below. not-below s best known (cost s chosen.0) k (subst (IsBeaten known) chosen.2 keeps.0) below), known-names known new_known best new_best keeps.1 keeps.2),
)
known-after s arcs rows marks weights Full bound after known new_known best new_best k chosen (inr takes) =
    let one : new_best ≡ chosen.0 = full-one s arcs marks new_best chosen.0 takes.2 chosen.1 in (
      chosen.0,
      chosen.1,
      inl (below-known s best known (cost s chosen.0) k (λ beaten. takes.0 (subst (IsBeaten known) (sym chosen.2) beaten)), known-names (Some after) new_known chosen.0 new_best takes.1 one),
    )

-- ---- the work
-- the act that was chosen may be done
acted : (s : Site) (arcs : List Arc) (kept : ProofState) (v : ℕ) (node : Node) (known : Option ℕ) (weights : List (ℕ × ℤ)) (act : Act) (bound after : ℕ) (value : ℤ) → IsBound node.bound value bound
    → IsActFor s arcs kept.rows (marks_of arcs kept.nodes v) known weights bound act after → IsActed s arcs kept v node value act (nodes_after kept.nodes v node act after)
acted s arcs kept v node known weights (Split a) bound after value is chosen = (after, subst (IsBound node.bound value) (sym chosen.1) is, chosen.0, refl)
acted s arcs kept v node known weights Stop bound after value is chosen = (after, subst (IsBound node.bound value) (sym chosen.1) is, refl)
acted s arcs kept v node known weights (Dead why) bound after value is chosen = (
  bound,
  is,
  chosen.0,
  ap (λ (b : ℕ). slice_set kept.nodes (v - 1) (worked node b WasDead)) chosen.1,
)
acted s arcs kept v node known weights Full bound after value is chosen = (
  chosen.0,
  chosen.1,
  ap (λ (b : ℕ). slice_set kept.nodes (v - 1) (worked node b WasFull)) chosen.2,
)

-- Lane number `lane` holds node v, on which an act was done, so that q comes after p.
pub record IsActing (s : Site) (arcs : List Arc) (p q : Progress) (lane v : ℕ) (act : Act) (bound after : ℕ) : Type 0 where
  pub holds : slice_get p.lanes.items lane ≡ Some (Some v)
  pub limit : q.budget ≡ p.budget
  pub same_ceiling : q.ceiling ≡ p.ceiling
  pub rest : List ℕ
  pub removed : IsPermutation p.open_nodes.items (v ∷ rest)
  pub node : Node
  pub made : node_of p.tree.nodes v ≡ Some node
  pub unworked : node.status ≡ Unworked
  pub bound_is : IsNodeBound s arcs p.pool p.decisions p.work.weights node.bound bound
  pub marks : p.decisions ≡ marks_of arcs p.tree.nodes v
  pub same_marks : q.decisions ≡ p.decisions
  pub chosen : IsActFor s arcs p.pool p.decisions p.known p.work.weights bound act after
  pub tree : q.tree ≡ tree_after p.tree v node act after
  pub pool : q.pool ≡ p.pool
  pub open_nodes : q.open_nodes.items ≡ open_after rest act (length p.tree.nodes)
  pub room : vec_capacity q.open_nodes ≡ vec_capacity p.open_nodes
  pub updates : UpdatesIncumbent s arcs p.decisions act after p.known p.best q.known q.best
  pub lawful : AreLawful p.pool p.work.weights
  pub few : length p.work.weights ≤ 1024
  pub lanes : q.lanes.items ≡ slice_set p.lanes.items lane None

-- some of the budget is left where a lane holds a node
pub some_left : (s : Site) (arcs : List Arc) (n : ℕ) (p : Progress) (lane v : ℕ) → IsSearching s arcs n p → slice_get p.lanes.items lane ≡ Some (Some v) → p.tree.works < p.tree.budget
some_left s arcs n p lane v searching holds =
    let some = held-some p.lanes.items lane v holds in
    let within = searching.within in
    let budget = searching.budget in
    omega (arith, some, within, budget)

-- so the work isn't refused
pub never_refused : (s : Site) (arcs : List Arc) (n : ℕ) (p : Progress) (lane v : ℕ) (fault : TreeFault) → IsSearching s arcs n p → slice_get p.lanes.items lane ≡ Some (Some v)
    → (fault ≡ Budget → p.tree.works ≡ p.tree.budget) → (fault ≡ Unmade → (p.tree.works ≢ p.tree.budget) × (node_of p.tree.nodes v ≡ None))
    → (fault ≡ Worked → (p.tree.works ≢ p.tree.budget) × ((made : Node) × (node_of p.tree.nodes v ≡ Some made) × (made.status ≢ Unworked))) → ⊥
never_refused s arcs n p lane v Budget searching holds no_budget unmade is_worked =
    let same = no_budget refl in
    let left = some_left s arcs n p lane v searching holds in
    omega (arith, left, same)
never_refused s arcs n p lane v Unmade searching holds no_budget unmade is_worked =
    let t = searching.held lane v holds in
    let none = (unmade refl).1 in
    let some = t.1 in
    cc
never_refused s arcs n p lane v Worked searching holds no_budget unmade is_worked =
    let t = searching.held lane v holds in
    let w = (is_worked refl).1 in
    let f : Some t.0 ≡ Some w.0 = sym t.1 ∙ w.1 in
    let same : t.0 ≡ w.0 = cc in
    w.2 (ap (λ (x : Node). x.status) (sym same) ∙ t.2)

-- there is room for two more nodes in the list
pub has_room : (s : Site) (arcs : List Arc) (n : ℕ) (p : Progress) (lane v : ℕ) (rest : List ℕ) (capacity : ℕ) → IsSearching s arcs n p → slice_get p.lanes.items lane ≡ Some (Some v)
    → IsPermutation p.open_nodes.items (v ∷ rest) → capacity ≡ vec_capacity p.open_nodes → length rest + 2 ≤ capacity
has_room s arcs n p lane v rest capacity searching holds removed same =
    let left = some_left s arcs n p lane v searching holds in
    let budget = searching.budget in
    let few = searching.few in
    let room = searching.room in
    let count = length_permutation p.open_nodes.items (v ∷ rest) removed in
    omega (arith, left, budget, few, room, count, same)

-- the tree is the next
after-tree : (p q : Progress) (t : TreeState) → q.tree ≡ t → q.pool ≡ p.pool → kept_of q ≡ record { rows = p.pool; nodes = t.nodes; works = t.works }
after-tree p q t e f = λ i. record { rows = f i; nodes = (e i).nodes; works = (e i).works }

-- the work is accepted
pub act-worked : (s : Site) (arcs : List Arc) (n : ℕ) (p q : Progress) (lane v : ℕ) (act : Act) (bound after : ℕ) → IsSearching s arcs n p → IsActing s arcs p q lane v act bound after
    → IsWorked s arcs n (kept_of p) v p.work.weights act (kept_of q)
act-worked s arcs n p q lane v act bound after searching step =
    let left = some_left s arcs n p lane v searching step.holds in
    let budget = searching.budget in
    let chosen = subst (λ marks. IsActFor s arcs p.pool marks p.known p.work.weights bound act after) step.marks step.chosen in
    let is = step.bound_is in
    subst (IsWorked s arcs n (kept_of p) v p.work.weights act) (sym (after-tree p q (tree_after p.tree v step.node act after) step.tree step.pool))
    (record {
      node = step.node;
      made = step.made;
      unworked = step.unworked;
      weights_count = step.few;
      lawful = step.lawful;
      within_budget = omega (arith, left, budget);
      value = is.value;
      is_value = subst (λ marks. IsValue s arcs p.pool marks p.work.weights is.value) step.marks is.is_value;
      acted = acted s arcs (kept_of p) v step.node p.known p.work.weights act bound after is.value is.is_bound chosen;
      rows = refl;
      works = refl;
    })

-- how many nodes are open after an act
open-count : (rest : List ℕ) (act : Act) (count : ℕ) → length (open_after rest act count) ≤ length rest + 2
open-count rest (Split a) count = (let e = length-append rest ((count + 2) ∷ (count + 1) ∷ []) in omega (arith, e))
open-count rest Stop count = omega arith
open-count rest (Dead why) count = omega arith
open-count rest Full count = omega arith

-- the search goes on
pub act-searching : (s : Site) (arcs : List Arc) (n : ℕ) (p q : Progress) (lane v : ℕ) (act : Act) (bound after : ℕ) → IsSearching s arcs n p → IsActing s arcs p q lane v act bound after → IsSearching s arcs n q
act-searching s arcs n p q lane v act bound after searching step =
    let count = length_permutation p.open_nodes.items (v ∷ step.rest) step.removed in
    let most = open-count step.rest act (length p.tree.nodes) in
    let few = searching.few in
    let now = ap length step.open_nodes in
    let works = ap (λ (t : TreeState). t.works) step.tree in
    let counted = held-set p.lanes.items lane (Some v) None step.holds in
    let lanes = ap (count_by is_holding) step.lanes in
    let within = searching.within in
    let same_lanes = length-set p.lanes.items lane nobody in
    record {
      valid = searching.valid;
      are_arcs = searching.are_arcs;
      some = searching.some;
      most = searching.most;
      limit = step.limit ∙ searching.limit;
      ceiling_is = step.same_ceiling ∙ searching.ceiling_is;
      budget = ap (λ (t : TreeState). t.budget) step.tree ∙ searching.budget;
      arcs_count = ap (λ (t : TreeState). t.arcs) step.tree ∙ searching.arcs_count;
      marks_count = ap length step.same_marks ∙ searching.marks_count;
      room = (let same = step.room in let room = searching.room in omega (arith, same, room));
      few = omega (arith, count, most, few, now, works);
      items = searching.items ++ WorkItem v p.work.weights act ∷ [];
      accepted = leads-then s arcs n _ (kept_of p) (kept_of q) searching.items (WorkItem v p.work.weights act ∷ []) searching.accepted (kept_of q, act-worked s arcs n p q lane v act bound after searching step, refl);
      rows = subst (HasPointRows s arcs) (sym step.pool) searching.rows;
      are_open = rw_open;
      held = subst (λ (t : TreeState). AreHeld t.nodes q.lanes.items) (sym step.tree)
          (subst (AreHeld (tree_after p.tree v step.node act after).nodes) (sym step.lanes)
          (held-after p.tree.nodes p.lanes.items lane v step.node act after step.holds step.made searching.held searching.apart));
      apart = subst AreApart (sym step.lanes) (apart-given p.lanes.items lane v step.holds searching.apart);
      few_lanes = (let there = searching.few_lanes in let long = ap length step.lanes in omega (arith, there, long, same_lanes));
      within = omega (arith, works, within, counted, lanes);
      known = known-kept s arcs p.pool p.decisions p.work.weights act bound after p.known q.known p.best q.best searching.known step.chosen step.updates;
    }
  where
    rw_open : AreOpen q.tree.nodes q.open_nodes.items
    rw_open =
        subst (λ (t : TreeState). AreOpen t.nodes q.open_nodes.items) (sym step.tree)
        (subst (AreOpen (tree_after p.tree v step.node act after).nodes) (sym step.open_nodes)
        (open-after p.tree.nodes step.rest v step.node act after step.made (open-permuted p.tree.nodes p.open_nodes.items (v ∷ step.rest) step.removed searching.are_open)))

-- the layout is known that was cheapest
pub act-known : (s : Site) (arcs : List Arc) (n : ℕ) (p q : Progress) (lane v : ℕ) (act : Act) (bound after : ℕ) → IsSearching s arcs n p → IsActing s arcs p q lane v act bound after
    → KnownAfter s act arcs p.decisions (known_by p.known p.best) (known_by q.known q.best)
act-known s arcs n p q lane v act bound after searching step =
    known-after s arcs p.pool p.decisions p.work.weights act bound after p.known q.known p.best q.best searching.known step.chosen step.updates

-- the node has the bound of its work
pub act-bound : (s : Site) (arcs : List Arc) (p q : Progress) (lane v : ℕ) (act : Act) (bound after : ℕ) → IsActing s arcs p q lane v act bound after → (made : Node) → node_of q.tree.nodes v ≡ Some made
    → made.bound ≡ after
act-bound s arcs p q lane v act bound after step made e =
    bound-after p.tree.nodes v step.node act after step.made made (subst (λ (t : TreeState). node_of t.nodes v ≡ Some made) step.tree e)

-- the open nodes as an act leaves them
open_by : (rest new : List ℕ) (act : Act) (count : ℕ) → ((a : ℕ) → act ≡ Split a → new ≡ rest ++ (count + 2) ∷ (count + 1) ∷ []) → (((a : ℕ) → ¬ (act ≡ Split a)) → new ≡ rest) → new ≡ open_after rest act count
open_by rest new (Split a) count split other = split a refl
open_by rest new Stop count split other = other (λ a e. cc)
open_by rest new (Dead why) count split other = other (λ a e. cc)
open_by rest new Full count split other = other (λ a e. cc)

-- what the calls of an act did
pub is_acting : (s : Site) (arcs : List Arc) (p q : Progress) (lane v : ℕ) (act : Act) (bound : ℕ) (after : ℤ) (rest : List ℕ) (count : ℕ) → slice_get p.lanes.items lane ≡ Some (Some v) → q.budget ≡ p.budget → q.ceiling ≡ p.ceiling
    → IsPermutation p.open_nodes.items (v ∷ rest) → pos 0 ≤ℤ after → after <ℤ pos (2 ^ 100)
    → ((made : Node) → node_of p.tree.nodes v ≡ Some made → IsNodeBound s arcs p.pool p.decisions p.work.weights made.bound bound) → p.decisions ≡ marks_of arcs p.tree.nodes v → q.decisions ≡ p.decisions
    → IsActFor s arcs p.pool p.decisions p.known p.work.weights bound act (nat_abs after)
    → (made : Node) × (node_of p.tree.nodes v ≡ Some made) × (made.status ≡ Unworked) × (q.tree ≡ tree_after p.tree v made act (nat_abs (to_z w128 (of_z w128 after))))
    → q.pool ≡ p.pool → count ≡ length p.tree.nodes → ((a : ℕ) → act ≡ Split a → q.open_nodes.items ≡ rest ++ (count + 2) ∷ (count + 1) ∷ [])
    → (((a : ℕ) → ¬ (act ≡ Split a)) → q.open_nodes.items ≡ rest) → vec_capacity q.open_nodes ≡ vec_capacity p.open_nodes
    → UpdatesIncumbent s arcs p.decisions act (nat_abs (to_z w128 (of_z w128 after))) p.known p.best q.known q.best
    → AreLawful p.pool p.work.weights → length p.work.weights ≤ 1024 → q.lanes.items ≡ slice_set p.lanes.items lane None → IsActing s arcs p q lane v act bound (nat_abs after)
is_acting s arcs p q lane v act bound after rest count holds limit same_ceiling removed a0 a1 is marks same_marks chosen tree pool counted split other room updates lawful few_weights lanes =
    let same_after : nat_abs (to_z w128 (of_z w128 after)) ≡ nat_abs after = ap nat_abs (passed after a0 a1) in
    record {
      holds = holds;
      limit = limit;
      same_ceiling = same_ceiling;
      rest = rest;
      removed = removed;
      node = tree.0;
      made = tree.1;
      unworked = tree.2;
      bound_is = is tree.0 tree.1;
      marks = marks;
      same_marks = same_marks;
      chosen = chosen;
      tree = tree.3 ∙ ap (tree_after p.tree v tree.0 act) same_after;
      pool = pool;
      open_nodes = open_by rest q.open_nodes.items act count split other ∙ ap (open_after rest act) counted;
      room = room;
      updates = subst (λ (b : ℕ). UpdatesIncumbent s arcs p.decisions act b p.known p.best q.known q.best) same_after updates;
      lawful = lawful;
      few = few_weights;
      lanes = lanes;
    }
