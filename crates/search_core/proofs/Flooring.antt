-- Node 1 after each step.
use Rattle.std.proofs.Common.{◌≡◌, ◌≢◌, ℤ, ℕ, zero, suc, inl, inr, List, [], ◌∷◌, ◌++◌, length, map, drop, Some, None, Option, refl, sym, ◌∙◌, ap, subst, arith}
use Rattle.std.proofs.lemmas.Bool.{cases_eq}
use Rattle.std.proofs.lemmas.Option.{slice_get_within}
use Rattle.cable_definitions.specs.declared.cable.Arc.{Arc}
use Rattle.cable_definitions.specs.declared.row.Act.{Act}
use Rattle.cable_definitions.specs.Site.{Site}
use Rattle.cable_definitions.specs.Tree.{Node, Item, WorkItem, node_of}
use Rattle.cable_definitions.specs.Core.{Core, Take, Work, Works, Steps, Runs, are_row_items}
use Rattle.proof_laws.proofs.Lists.{some_at}
use Rattle.search_laws.proofs.Leading.{rows-listed}
use Rattle.search_laws.proofs.Acting.{other-acted}
use Rattle.search_progress.specs.Progress.{core_of}
use Rattle.search_parts.specs.Floored.{IsFloored}
use Rattle.search_core.specs.Steps.{Did, items_of}
use Rattle.search_progress.specs.declared.progress.Progress.{Progress}
use Rattle.search_core.specs.declared.machine.Step.{Step}
use Rattle.search_core.specs.declared.machine.Step.TheVariants.{Nothing, Took, Kept, Worked}
use Rattle.search_parts.specs.Ended.{IsRootFloored}

-- ---- the last item
abbrev last_of : List Item → Option Item
last_of [] = None
last_of (x ∷ []) = Some x
last_of (x ∷ y ∷ ys) = last_of (y ∷ ys)

last-behind : (xs : List Item) (y : Item) → last_of (xs ++ y ∷ []) ≡ Some y
last-behind [] y = refl
last-behind (x ∷ []) y = refl
last-behind (x ∷ z ∷ zs) y = last-behind (z ∷ zs) y

-- items that end with a work are those that end with that work
same-node : (xs ys : List Item) (v w : ℕ) (first second : List (ℕ × ℤ)) (a b : Act) → xs ++ WorkItem v first a ∷ [] ≡ ys ++ WorkItem w second b ∷ [] → v ≡ w
same-node xs ys v w first second a b e =
    let f : Some (WorkItem v first a) ≡ Some (WorkItem w second b) = sym (last-behind xs (WorkItem v first a)) ∙ ap last_of e ∙ last-behind ys (WorkItem w second b) in
    cc

-- ---- steps
-- takes and finds make no node
takes-step : (s : Site) (arcs : List Arc) (n : ℕ) (old new : Core) (lane : ℕ) → Steps s arcs n old (Take lane) new → new.kept.nodes ≡ old.kept.nodes
takes-step s arcs n old new lane (inl takes) = ap (λ (c : Core). c.kept.nodes) takes.after
takes-step s arcs n old new lane (inr nothing) = ap (λ (c : Core). c.kept.nodes) nothing.1

pub takes-nodes : (s : Site) (arcs : List Arc) (n : ℕ) (lanes : List ℕ) (old new : Core) → Runs s arcs n old (map Take lanes) new → new.kept.nodes ≡ old.kept.nodes
takes-nodes s arcs n [] old new runs = ap (λ (c : Core). c.kept.nodes) runs
takes-nodes s arcs n (lane ∷ lanes) old new runs = takes-nodes s arcs n lanes runs.0 new runs.2 ∙ takes-step s arcs n old runs.0 lane runs.1

-- what is kept of nodes that are the same
pub floored-same : (s : Site) (old new : List Node) → new ≡ old → IsRootFloored s old → IsRootFloored s new
floored-same s old new e h = subst (IsRootFloored s) (sym e) h

-- a node after the first shows that there is a first
first-made : (nodes : List Node) (v : ℕ) (node : Node) → node_of nodes v ≡ Some node → v ≢ 1 → (first : Node) × (node_of nodes 1 ≡ Some first)
first-made nodes zero node e other = absurd (cc)
first-made nodes (suc zero) node e other = absurd (other refl)
first-made nodes (suc (suc k)) node e other = some_at nodes 0 (let within = slice_get_within nodes (suc k) node e in omega (arith, within))

-- a work on another node leaves node 1 as it was
other-floored : (s : Site) (arcs : List Arc) (n lane : ℕ) (old new : Core) → (works : Works s arcs n old lane new) → works.node ≢ 1 → IsRootFloored s old.kept.nodes → IsRootFloored s new.kept.nodes
other-floored s arcs n lane old new works other h first made worked =
    let was = first-made works.listed.nodes works.node works.work_accepted.node works.work_accepted.made other in
    let kept : new.kept.nodes ≡ works.kept.nodes = ap (λ (c : Core). c.kept.nodes) works.after in
    let stays = other-acted s arcs works.listed works.node works.work_accepted.node works.work_accepted.value works.act works.kept.nodes works.work_accepted.made works.work_accepted.acted 1 was.0 (λ e. other (sym e)) was.1 in
    let e : Some was.0 ≡ Some first = sym stays ∙ sym (ap (λ (nodes : List Node). node_of nodes 1) kept) ∙ made in
    let same : was.0 ≡ first = cc in
    let listed = (rows-listed s arcs n works.rows old.kept works.listed works.rows_accepted).nodes in
    h first (sym (ap (λ (nodes : List Node). node_of nodes 1) listed) ∙ was.1 ∙ ap Some same) worked

-- so each step keeps node 1 floored, where a work on it leaves it so
pub floored-step : (s : Site) (arcs : List Arc) (n lane : ℕ) (old new : Progress) (step : Step) → Did s arcs n old (Work lane) new step
    → ((from to : ℕ) (made : Node) → step ≡ Worked from to → new.work.node ≡ 1 → node_of new.tree.nodes 1 ≡ Some made → IsFloored s made) → IsRootFloored s old.tree.nodes → IsRootFloored s new.tree.nodes
floored-step s arcs n lane old new Nothing did floor h = floored-same s old.tree.nodes new.tree.nodes (ap (λ (p : Progress). p.tree.nodes) (did.same refl)) h
floored-step s arcs n lane old new (Took v) did floor h = absurd (let at = did.took v refl in let e = at.1 in cc)
floored-step s arcs n lane old new Kept did floor h = absurd (let at = did.kept refl in let e = at.1 in cc)
floored-step s arcs n lane old new (Worked from to) did floor h = elim (cases_eq works.node 1) [
  | inl one ↦ (λ first made worked. floor from to first refl (same ∙ one) made)
  | inr other ↦ other-floored s arcs n lane (core_of [] old) (core_of ([] ++ items_of old new (Worked from to)) new) works other h
]
  where
    works : Works s arcs n (core_of [] old) lane (core_of ([] ++ items_of old new (Worked from to)) new)
    works = did.happens (λ e. cc) []

    same : new.work.node ≡ works.node
    same = same-node (are_row_items (drop (length old.pool) new.pool)) (are_row_items works.rows) new.work.node works.node new.work.weights works.weights new.work.act works.act (ap (λ (c : Core). c.items) works.after)

-- the same, told of an equal site
pub floored-at : (old new : List Node) {s t : Site} → s ≡ t → (IsRootFloored s old → IsRootFloored s new) → IsRootFloored t old → IsRootFloored t new
floored-at old new e h = subst (λ (x : Site). IsRootFloored x old → IsRootFloored x new) e h
