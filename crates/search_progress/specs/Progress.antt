-- How far a search is.
use Rattle.std.specs.Prelude.{◌≡◌, ◌⊎◌, ℕ, ◌+◌, ◌≤◌, ◌==◌, List, length, slice_get, Option, Some, None, count_by, vec_capacity}
use Rattle.cable_definitions.specs.declared.cable.Cable.{Cable}
use Rattle.cable_definitions.specs.declared.cable.Arc.{Arc}
use Rattle.cable_definitions.specs.declared.row.Mark.{Mark}
use Rattle.cable_definitions.specs.declared.row.Act.{Act}
use Rattle.cable_definitions.specs.declared.row.Act.TheVariants.{Split, Stop, Dead, Full}
use Rattle.cable_definitions.specs.Site.{Site, IsValid}
use Rattle.cable_definitions.specs.Arcs.{AreArcs}
use Rattle.cable_definitions.specs.Layout.{IsLegal, cost}
use Rattle.cable_definitions.specs.Tree.{Status, Unworked, WasSplit, Stopped, WasDead, WasFull, Node, Item, ProofState, node_of, IsAccepted, IsFull, ceiling}
use Rattle.cable_definitions.specs.Core.{Core, held_count}
use Rattle.proof_laws.specs.Decided.{HasPointRows}
use Rattle.proof_laws.specs.WorksLeft.{IsUnworked}
use Rattle.search_progress.specs.Chosen.{IsBeaten}
use Rattle.search_progress.specs.Lists.{AreFew}
use Rattle.search_progress.specs.declared.progress.Progress.{Progress}

-- what the search keeps of its items
abbrev pub kept_of : Progress → ProofState
kept_of p = record { rows = p.pool; nodes = p.tree.nodes; works = p.tree.works }

-- the layout that is kept, where a cost is known
abbrev pub known_by : Option ℕ → List Cable → Option (List Cable)
known_by None cables = None
known_by (Some total) cables = Some cables

-- the state that the search stands for, with the items that led to it
abbrev pub core_of : List Item → Progress → Core
core_of items p = record { items = items; kept = kept_of p; lanes = p.lanes.items; known = known_by p.known p.best }

-- 1 for a node that isn't worked
abbrev pub one_if_unworked : Status → ℕ
one_if_unworked Unworked = 1
one_if_unworked WasSplit = 0
one_if_unworked Stopped = 0
one_if_unworked WasDead = 0
one_if_unworked WasFull = 0

-- 1 where there is a node and it isn't worked
abbrev pub unworked_count : Option Node → ℕ
unworked_count None = 0
unworked_count (Some node) = one_if_unworked node.status

-- the list has exactly the nodes that aren't worked, each once
abbrev pub AreOpen : List Node → List ℕ → Type 0
AreOpen nodes open_nodes = (v : ℕ) → count_by (λ w. w == v) open_nodes ≡ unworked_count (node_of nodes v)

-- each lane's node isn't worked
abbrev pub AreHeld : List Node → List (Option ℕ) → Type 0
AreHeld nodes lanes = (lane v : ℕ) → slice_get lanes lane ≡ Some (Some v) → IsUnworked nodes v

-- different lanes hold different nodes
abbrev pub AreApart : List (Option ℕ) → Type 0
AreApart lanes = (i j v : ℕ) → slice_get lanes i ≡ Some (Some v) → slice_get lanes j ≡ Some (Some v) → i ≡ j

-- where a cost is known, it is that of the layout, which is legal
abbrev pub IsKnown : Site → List Cable → Option ℕ → Type 0
IsKnown s cables None = Unit {0}
IsKnown s cables (Some total) = IsLegal s cables × (cost s cables ≡ total)

-- What holds before each event: the ceiling is that of the site, the items so far are accepted, the rows on the cables of single points are listed, the lists fit the tree, and the known
-- cost is that of the known layout, which is legal.
pub record IsSearching (s : Site) (arcs : List Arc) (n : ℕ) (p : Progress) : Type 0 where
  pub valid : IsValid s
  pub are_arcs : AreArcs s arcs
  pub some : 1 ≤ n
  pub most : n ≤ 50000
  pub limit : p.budget ≡ n
  pub ceiling_is : p.ceiling ≡ ceiling s arcs
  pub budget : p.tree.budget ≡ n
  pub arcs_count : p.tree.arcs ≡ length arcs
  pub marks_count : length p.decisions ≡ length arcs
  pub room : n + 2 ≤ vec_capacity p.open_nodes
  pub few : length p.open_nodes.items ≤ p.tree.works + 1
  pub items : List Item
  pub accepted : IsAccepted s arcs n items (kept_of p)
  pub rows : HasPointRows s arcs p.pool
  pub are_open : AreOpen p.tree.nodes p.open_nodes.items
  pub held : AreHeld p.tree.nodes p.lanes.items
  pub apart : AreApart p.lanes.items
  pub few_lanes : length p.lanes.items ≤ 16
  pub within : p.tree.works + held_count (core_of items p) ≤ n
  pub known : IsKnown s p.best p.known

-- while no node is worked, at most the first rows are listed, so there is room behind them for the rows of node 1
abbrev pub HasFirstRoom : Progress → Type 0
HasFirstRoom p = p.tree.works ≡ 0 → AreFew p.pool 768

-- A full layout of this cost was found: it is the known one where it is cheaper or none was known, and else nothing changes.
abbrev pub KeepsBest : Site → List Arc → List Mark → ℕ → Option ℕ → List Cable → Option ℕ → List Cable → Type 0
KeepsBest s arcs marks total known best new_known new_best =
    (IsBeaten known total × (new_known ≡ known) × (new_best ≡ best))
    ⊎ ((¬ (IsBeaten known total)) × (new_known ≡ Some total) × IsFull s arcs marks new_best)

-- after an act: a full layout may become the known one, and else the known one is as it was
abbrev pub UpdatesIncumbent : Site → List Arc → List Mark → Act → ℕ → Option ℕ → List Cable → Option ℕ → List Cable → Type 0
UpdatesIncumbent s arcs marks Full total known best new_known new_best = KeepsBest s arcs marks total known best new_known new_best
UpdatesIncumbent s arcs marks (Split a) total known best new_known new_best = (new_known ≡ known) × (new_best ≡ best)
UpdatesIncumbent s arcs marks Stop total known best new_known new_best = (new_known ≡ known) × (new_best ≡ best)
UpdatesIncumbent s arcs marks (Dead why) total known best new_known new_best = (new_known ≡ known) × (new_best ≡ best)
