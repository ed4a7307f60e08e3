-- The work on node 1 leaves it dead, or with a bound of at least the sum of the least costs out of the turbines and, without bends, the cost of the
-- cheapest in-tree.
use Rattle.std.proofs.Common.{◌≡◌, ◌≢◌, ℕ, zero, suc, ◌*◌, ◌^◌, ◌≤◌, ◌⊎◌, inl, inr, ℤ, pos, ◌≤ℤ◌, List, [], ◌∷◌, ◌++◌, slice_get, Some, None, Option, Bool, true, false, refl, sym, ◌∙◌, ap, subst, arith}
use Rattle.std.specs.Prelude.{slice_set, cond, ◌==◌}
use Rattle.std.proofs.lemmas.Int.{ints}
use Rattle.std.proofs.lemmas.Option.{slice_get_within}
use Rattle.std.proofs.Math.ListN.{length-set}
use Rattle.cable_definitions.specs.declared.cable.Arc.{Arc}
use Rattle.cable_definitions.specs.declared.cable.Cable.{Cable}
use Rattle.cable_definitions.specs.declared.row.Mark.{Mark}
use Rattle.cable_definitions.specs.declared.row.Mark.TheVariants.{Free, Unused}
use Rattle.cable_definitions.specs.declared.row.Why.TheVariants.{Row as RowWhy}
use Rattle.cable_definitions.specs.declared.row.Act.{Act}
use Rattle.cable_definitions.specs.declared.row.Act.TheVariants.{Split, Stop, Dead, Full}
use Rattle.cable_definitions.specs.Site.{Site}
use Rattle.cable_definitions.specs.Layout.{IsLegal, cost}
use Rattle.cable_definitions.specs.Budget.{IsNearest}
use Rattle.cable_definitions.specs.InTree.{HasNoBends, IsInTree, in_tree_cost, IsFloor}
use Rattle.cable_definitions.specs.Row.{Row}
use Rattle.cable_definitions.specs.Choice.{AreLawful}
use Rattle.cable_definitions.specs.Tree.{Status, WasSplit, Stopped, WasDead, WasFull, Node, Item, RowItem, WorkItem, ProofState, root, empty_state, node_of, marks_of, mark_by, mark_in, worked, IsActed, IsWorked, Leads}
use Rattle.branch_tree.specs.State.{status_after}
use Rattle.layout_laws.proofs.Nearest.{Least-nearest}
use Rattle.proof_laws.proofs.Boxes.{marks_of-at, set_either, append_left, append_either}
use Rattle.proof_laws.proofs.Sound.{children, set_at_node}
use Rattle.proof_laws.proofs.NearestValue.{value-nearest}
use Rattle.turbine_weights.proofs.FirstNode.{turbine_weights-out}
use Rattle.floor_rows.specs.Reached.{ReachFloor}
use Rattle.search_progress.specs.Chosen.{IsBeaten, IsActFor, IsNodeBound}
use Rattle.search_core.specs.Raised.{BeatTurbines, BeatLast}
use Rattle.search_progress.specs.Progress.{kept_of, IsKnown, IsSearching}
use Rattle.search_parts.specs.Floored.{IsFloored}
use Rattle.search_progress.specs.declared.progress.Progress.{Progress}
use Rattle.search_core.proofs.Stepping.{made-worked, all-well_formed}

-- ---- node 1
-- the first node has no arc of its own
abbrev IsRootFree : List Node → Type 0
IsRootFree nodes = (x : Node) → slice_get nodes 0 ≡ Some x → x.mark ≡ Free

-- a node is worked
free-set : (nodes : List Node) (i : ℕ) (node : Node) (bound : ℕ) (status : Status) → slice_get nodes i ≡ Some node → IsRootFree nodes → IsRootFree (slice_set nodes i (worked node bound status))
free-set nodes i node bound status e free x f = elim (set_either nodes i (worked node bound status) node e 0 x f) [
  | inl here ↦ sym (ap (λ (n : Node). n.mark) here.1) ∙ free node (subst (λ (k : ℕ). slice_get nodes k ≡ Some node) (sym here.0) e)
  | inr there ↦ free x there.1
]

-- and its children are made
free-split : (nodes : List Node) (i : ℕ) (node : Node) (bound : ℕ) (status : Status) (more : List Node) → slice_get nodes i ≡ Some node → IsRootFree nodes
    → IsRootFree (slice_set nodes i (worked node bound status) ++ more)
free-split nodes i node bound status more e free x f = elim (append_either (slice_set nodes i (worked node bound status)) more 0 x f) [
  | inl there ↦ free-set nodes i node bound status e free x there
  | inr c ↦ absurd (let count = length-set nodes i (worked node bound status) in let some = slice_get_within nodes i node e in let place = c.1 in omega (arith, count, some, place))
]

free-acted : (s : Site) (arcs : List Arc) (old : ProofState) (i : ℕ) (node : Node) (value : ℤ) (act : Act) (nodes : List Node) → slice_get old.nodes i ≡ Some node → IsRootFree old.nodes
    → IsActed s arcs old (suc i) node value act nodes → IsRootFree nodes
free-acted s arcs old i node value (Split a) nodes e free acted =
    subst IsRootFree (sym (acted.3 ∙ ap (λ xs. xs ++ children (suc i) acted.0 a) (set_at_node i old.nodes (worked node acted.0 WasSplit))))
    (free-split old.nodes i node acted.0 WasSplit (children (suc i) acted.0 a) e free)
free-acted s arcs old i node value Stop nodes e free acted =
    subst IsRootFree (sym (acted.2 ∙ set_at_node i old.nodes (worked node acted.0 Stopped))) (free-set old.nodes i node acted.0 Stopped e free)
free-acted s arcs old i node value (Dead why) nodes e free acted =
    subst IsRootFree (sym (acted.3 ∙ set_at_node i old.nodes (worked node acted.0 WasDead))) (free-set old.nodes i node acted.0 WasDead e free)
free-acted s arcs old i node value Full nodes e free acted =
    subst IsRootFree (sym (acted.2 ∙ set_at_node i old.nodes (worked node (cost s acted.0) WasFull))) (free-set old.nodes i node (cost s acted.0) WasFull e free)

free-leads : (s : Site) (arcs : List Arc) (n : ℕ) (items : List Item) (old new : ProofState) → Leads s arcs n old items new → IsRootFree old.nodes → IsRootFree new.nodes
free-leads s arcs n [] old new l free = subst IsRootFree (sym (ap (λ (k : ProofState). k.nodes) l)) free
free-leads s arcs n (RowItem row ∷ items) old new l free = free-leads s arcs n items l.0 new l.2 (subst IsRootFree (sym l.1.nodes) free)
free-leads s arcs n (WorkItem zero weights act ∷ items) old new l free = absurd (let e = l.1.made in cc)
free-leads s arcs n (WorkItem (suc i) weights act ∷ items) old new l free =
    free-leads s arcs n items l.0 new l.2 (free-acted s arcs old i l.1.node l.1.value act l.0.nodes l.1.made free l.1.acted)

-- so no arc is marked unused there
root-unused : (arcs : List Arc) (nodes : List Node) → IsRootFree nodes → (a : ℕ) → slice_get (marks_of arcs nodes 1) a ≢ Some Unused
root-unused arcs nodes free a e = by_node (slice_get nodes 0) refl
  where
    by_mark : (x : Node) → x.mark ≡ Free → (t : Bool) → cond t x.mark Free ≡ Free
    by_mark x f true = f
    by_mark x f false = refl

    by_node : (o : Option Node) → slice_get nodes 0 ≡ o → ⊥
    by_node None f =
        let is = (marks_of-at arcs nodes 1 a Unused e).1 in
        let same = ap (λ (o : Option Node). mark_by a o (mark_in 0 nodes a)) f in
        let g : Free ≡ Unused = sym same ∙ is in
        cc
    by_node (Some x) f =
        let is = (marks_of-at arcs nodes 1 a Unused e).1 in
        let same = ap (λ (o : Option Node). mark_by a o (mark_in 0 nodes a)) f in
        let g : Unused ≡ Free = sym is ∙ same ∙ by_mark x (free x f) (x.arc == a) in
        cc

-- ---- its work
-- a value that reaches a sum of costs gives at least that bound
scaled : (a b : ℕ) (low z : ℤ) → pos (2 ^ 20 * a) ≤ℤ low → low ≤ℤ z → z ≤ℤ pos (2 ^ 20 * b) → a ≤ b
scaled a b low z l m h = omega (arith, ints, l, m, h)

-- a bound that isn't below the known cost is at least what each legal layout costs at least
known-least : (s : Site) (best : List Cable) (known : Option ℕ) (bound least : ℕ) → ((cables : List Cable) → IsLegal s cables → least ≤ cost s cables) → IsKnown s best known → IsBeaten known bound
    → least ≤ bound
known-least s best None bound least lower k l = absurd l
known-least s best (Some total) bound least lower k l = (let low = lower best k.0 in let is_cost = k.1 in omega (arith, low, is_cost, l))

-- no act but that of a dead node leaves a lower bound
floored-act : (s : Site) (arcs : List Arc) (n : ℕ) (m : Progress) (weights : List (ℕ × ℤ)) (bound after parent nearest : ℕ) (act : Act) → IsSearching s arcs n m → m.decisions ≡ marks_of arcs m.tree.nodes 1
    → IsNodeBound s arcs m.pool m.decisions weights parent bound → IsActFor s arcs m.pool m.decisions m.known weights bound act after
    → ((a : ℕ) → act ≡ Split a → BeatTurbines s arcs m.pool m.decisions weights) → IsNearest s nearest → (status_after act ≡ WasDead) ⊎ (nearest ≤ after)
floored-act s arcs n m weights bound after parent nearest (Split a) h same is chosen beats total =
    let beaten = beats a refl in
    let unused = subst (λ (marks : List Mark). (a : ℕ) → slice_get marks a ≢ Some Unused) (sym same)
    (root-unused arcs m.tree.nodes (free-leads s arcs n h.items empty_state (kept_of m) h.accepted (λ x e. (let f : root ≡ x = cc in sym (ap (λ (k : Node). k.mark) f))))) in
    let out = turbine_weights-out s arcs m.pool m.decisions beaten.turbines h.are_arcs (all-well_formed s arcs n m h) h.rows unused beaten.are_turbines in
    let low = value-nearest s arcs m.pool m.decisions beaten.turbines beaten.low nearest out beaten.is_low total in
    let enough = scaled nearest bound beaten.low is.value low (beaten.at_least is.value is.is_value) is.is_bound.value_below in
    inr (let e = chosen.1 in omega (arith, enough, e))
floored-act s arcs n m weights bound after parent nearest Stop h same is chosen beats total =
    inr (let low = known-least s m.best m.known bound nearest (λ cables legal. Least-nearest s nearest total cables legal) h.known chosen.0 in let e = chosen.1 in omega (arith, low, e))
floored-act s arcs n m weights bound after parent nearest (Dead why) h same is chosen beats total = inl refl
floored-act s arcs n m weights bound after parent nearest Full h same is chosen beats total =
    inr (let least = Least-nearest s nearest total chosen.0 chosen.1.legal in let e = chosen.2 in omega (arith, least, e))

-- ---- in-trees
-- What is known where node 1 is worked on a site without bends: the last weights are lawful over the rows that stand then, and reach the cost of the
-- cheapest in-tree; further rows are listed behind these; and a legal layout holds an in-tree that costs no more.
pub record IsFloorListed (s : Site) (arcs : List Arc) (rows all : List Row) (last : List (ℕ × ℤ)) : Type 0 where
  pub lawful : AreLawful rows last
  pub reaches : ReachFloor s arcs rows last
  pub more : List Row
  pub behind : all ≡ rows ++ more
  pub holds : (cables : List Cable) → IsLegal s cables → (tree : List Cable) × IsInTree s tree × (in_tree_cost s tree ≤ cost s cables)

-- no legal layout costs less than the cheapest in-tree
tree-least : (s : Site) (arcs : List Arc) (rows all : List Row) (last : List (ℕ × ℤ)) (least : ℕ) → IsFloorListed s arcs rows all last → IsFloor s least → (cables : List Cable) → IsLegal s cables
    → least ≤ cost s cables
tree-least s arcs rows all last least listed floor cables legal =
    let held = listed.holds cables legal in
    let low = floor.no_less held.0 held.1 in
    let high = held.2 in
    omega (arith, low, high)

-- no act but that of a dead node leaves a bound below its cost
tree-act : (s : Site) (arcs : List Arc) (n : ℕ) (m : Progress) (rows : List Row) (last weights : List (ℕ × ℤ)) (bound after parent least : ℕ) (act : Act) → IsSearching s arcs n m
    → IsNodeBound s arcs m.pool m.decisions weights parent bound → IsActFor s arcs m.pool m.decisions m.known weights bound act after → IsFloorListed s arcs rows m.pool last
    → ((a : ℕ) → act ≡ Split a → AreLawful rows last → BeatLast s arcs rows m.pool m.decisions last weights) → IsFloor s least → (status_after act ≡ WasDead) ⊎ (least ≤ after)
tree-act s arcs n m rows last weights bound after parent least (Split a) h is chosen listed beats floor =
    let beaten = beats a refl listed.lawful in
    let low = listed.reaches.in_tree least floor m.decisions beaten.low beaten.is_low in
    let enough = scaled least bound beaten.low is.value low (beaten.at_least is.value is.is_value) is.is_bound.value_below in
    inr (let e = chosen.1 in omega (arith, enough, e))
tree-act s arcs n m rows last weights bound after parent least Stop h is chosen listed beats floor =
    inr (let low = known-least s m.best m.known bound least (tree-least s arcs rows m.pool last least listed floor) h.known chosen.0 in let e = chosen.1 in omega (arith, low, e))
tree-act s arcs n m rows last weights bound after parent least (Dead why) h is chosen listed beats floor = inl refl
tree-act s arcs n m rows last weights bound after parent least Full h is chosen listed beats floor =
    inr (let low = tree-least s arcs rows m.pool last least listed floor chosen.0 chosen.1.legal in let e = chosen.2 in omega (arith, low, e))

-- without an in-tree there is no legal layout, and a row that is never met makes the node dead
no-tree-act : (s : Site) (arcs : List Arc) (n : ℕ) (m : Progress) (rows : List Row) (last weights : List (ℕ × ℤ)) (bound after : ℕ) (act : Act) → IsSearching s arcs n m
    → IsActFor s arcs m.pool m.decisions m.known weights bound act after → IsFloorListed s arcs rows m.pool last → ((tree : List Cable) → ¬ (IsInTree s tree)) → status_after act ≡ WasDead
no-tree-act s arcs n m rows last weights bound after (Split a) h chosen listed none =
    let never = listed.reaches.no_in_tree none in
    let there : slice_get m.pool never.0 ≡ Some never.1 = ap (λ (xs : List Row). slice_get xs never.0) listed.behind ∙ append_left rows listed.more never.0 never.1 never.2 in
    absurd (chosen.2.alive (RowWhy never.0) (never.1, there, never.3 m.decisions h.marks_count))
no-tree-act s arcs n m rows last weights bound after Stop h chosen listed none = absurd (by_known m.known h.known chosen.0)
  where
    by_known : (known : Option ℕ) → IsKnown s m.best known → IsBeaten known bound → ⊥
    by_known None k l = l
    by_known (Some total) k l = (let held = listed.holds m.best k.0 in none held.0 held.1)
no-tree-act s arcs n m rows last weights bound after (Dead why) h chosen listed none = refl
no-tree-act s arcs n m rows last weights bound after Full h chosen listed none = (let held = listed.holds chosen.0 chosen.1.legal in absurd (none held.0 held.1))

-- ---- what a work leaves of node 1
pub floored-work : (s : Site) (arcs : List Arc) (n : ℕ) (m q : Progress) (v : ℕ) (rows : List Row) (last weights : List (ℕ × ℤ)) (bound after parent : ℕ) (act : Act) (made : Node) → v ≡ 1 → IsSearching s arcs n m
    → m.decisions ≡ marks_of arcs m.tree.nodes v → IsNodeBound s arcs m.pool m.decisions weights parent bound → IsActFor s arcs m.pool m.decisions m.known weights bound act after
    → ((a : ℕ) → act ≡ Split a → BeatTurbines s arcs m.pool m.decisions weights)
    → ((a : ℕ) → act ≡ Split a → AreLawful rows last → BeatLast s arcs rows m.pool m.decisions last weights) → (HasNoBends s → IsFloorListed s arcs rows m.pool last)
    → IsWorked s arcs n (kept_of m) v weights act (kept_of q)
    → ((x : Node) → node_of q.tree.nodes v ≡ Some x → x.bound ≡ after) → node_of q.tree.nodes 1 ≡ Some made → IsFloored s made
floored-work s arcs n m q v rows last weights bound after parent act made first h same is chosen beats beats_last listed work bound_is there = record {
  nearest = λ nearest total. left nearest
      (floored-act s arcs n m weights bound after parent nearest act h (subst (λ (u : ℕ). m.decisions ≡ marks_of arcs m.tree.nodes u) first same) is chosen beats total);
  in_tree = λ no_bends least floor. left least (tree-act s arcs n m rows last weights bound after parent least act h is chosen (listed no_bends) beats_last floor);
  no_in_tree = λ no_bends none. status ∙ no-tree-act s arcs n m rows last weights bound after act h chosen (listed no_bends) none;
}
  where
    here : node_of q.tree.nodes v ≡ Some made
    here = subst (λ (u : ℕ). node_of q.tree.nodes u ≡ Some made) (sym first) there

    status : made.status ≡ status_after act
    status =
        let stands = made-worked s arcs n (kept_of m) v weights act (kept_of q) work in
        let both : Some stands.0 ≡ Some made = sym stands.1 ∙ here in
        let one : stands.0 ≡ made = cc in
        sym (ap (λ (k : Node). k.status) one) ∙ stands.2

    left : (least : ℕ) → (status_after act ≡ WasDead) ⊎ (least ≤ after) → (made.status ≡ WasDead) ⊎ (least ≤ made.bound)
    left least (inl dead) = inl (status ∙ dead)
    left least (inr enough) = inr (let e = bound_is made here in omega (arith, enough, e))
