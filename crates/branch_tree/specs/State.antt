-- A tree as its nodes, and the nodes that a work leaves.
use Rattle.std.specs.Prelude.{◌≡◌, ℕ, ◌+◌, ◌-◌, ◌<◌, List, [], ◌∷◌, ◌++◌, slice_set, Some}
use Rattle.cable_definitions.specs.declared.row.Mark.TheVariants.{Used, Unused}
use Rattle.cable_definitions.specs.declared.row.Act.{Act}
use Rattle.cable_definitions.specs.declared.row.Act.TheVariants.{Split, Stop, Dead, Full}
use Rattle.cable_definitions.specs.Tree.{Node, Status, WasSplit, Stopped, WasDead, WasFull, node_of, worked, child, root}

-- a tree for so many works over so many arcs: its made nodes (node 1 first) and the number of its works
pub record TreeState : Type 0 where
  pub budget : ℕ
  pub arcs : ℕ
  pub nodes : List Node
  pub works : ℕ

-- the root alone
abbrev pub new_tree : ℕ → ℕ → TreeState
new_tree budget arcs = record { budget = budget; arcs = arcs; nodes = root ∷ []; works = 0 }

-- what an act makes of its node
abbrev pub status_after : Act → Status
status_after (Split a) = WasSplit
status_after Stop = Stopped
status_after (Dead why) = WasDead
status_after Full = WasFull

-- the nodes after an act on node number v, which is this node and has this bound then
abbrev pub nodes_after : List Node → ℕ → Node → Act → ℕ → List Node
nodes_after nodes v node (Split a) bound = slice_set nodes (v - 1) (worked node bound WasSplit) ++ child v bound a Used ∷ child v bound a Unused ∷ []
nodes_after nodes v node Stop bound = slice_set nodes (v - 1) (worked node bound Stopped)
nodes_after nodes v node (Dead why) bound = slice_set nodes (v - 1) (worked node bound WasDead)
nodes_after nodes v node Full bound = slice_set nodes (v - 1) (worked node bound WasFull)

-- the tree after an act
abbrev pub tree_after : TreeState → ℕ → Node → Act → ℕ → TreeState
tree_after tree v node act bound = record tree { nodes = nodes_after tree.nodes v node act bound; works = tree.works + 1 }

-- node number v was made
abbrev pub IsMade : List Node → ℕ → Type 0
IsMade nodes v = (node : Node) × (node_of nodes v ≡ Some node)

-- an act names an arc below this number
abbrev pub ActIsWithin : ℕ → Act → Type 0
ActIsWithin arcs act = (a : ℕ) → act ≡ Split a → a < arcs
