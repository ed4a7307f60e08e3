-- The nodes that the program keeps, and what is so of them.
use Rattle.std.specs.Prelude.{◌≡◌, ◌≢◌, ℕ, ◌+◌, ◌*◌, ◌^◌, ◌≤◌, ◌<◌, List, length, slice_get, Option, Some, None, IsTrue}
use Rattle.cable_definitions.specs.declared.row.Mark.{Mark}
use Rattle.cable_definitions.specs.declared.row.Mark.TheVariants.{Free, Used, Unused}
use Rattle.cable_definitions.specs.Tree.{Node, Status, Unworked, WasSplit, Stopped, WasDead, WasFull, is_open_leaf}
use Rattle.branch_tree.specs.declared.node.TreeNode.{TreeNode}
use Rattle.branch_tree.specs.declared.node.NodeStatus.{NodeStatus}
use Rattle.branch_tree.specs.declared.node.NodeStatus.TheVariants.{Unworked as KeptUnworked, WasSplit as KeptSplit, Stopped as KeptStopped, WasDead as KeptDead, WasFull as KeptFull}
use Rattle.branch_tree.specs.State.{TreeState}

-- what was done with a kept node
abbrev pub as_status : NodeStatus → Status
as_status KeptUnworked = Unworked
as_status KeptSplit = WasSplit
as_status KeptStopped = Stopped
as_status KeptDead = WasDead
as_status KeptFull = WasFull

-- a kept node
abbrev pub as_node : TreeNode → Node
as_node kept = record { parent = kept.parent; arc = kept.arc; mark = kept.mark; bound = kept.bound; status = as_status kept.status }

-- The node in place i, from 0: its parent stands before it, and each node but the first marks an arc used or unused. The first marks none.
pub record IsPlacedNode (arcs i : ℕ) (node : Node) : Type 0 where
  pub parent_before : node.parent ≤ i
  pub within : 1 ≤ i → node.arc < arcs
  pub decides : 1 ≤ i → node.mark ≢ Free
  pub root_free : i ≡ 0 → node.mark ≡ Free
  pub small : node.bound < 2 ^ 100

-- all nodes stand so
abbrev pub ArePlaced : ℕ → List Node → Type 0
ArePlaced arcs nodes = (i : ℕ) (node : Node) → slice_get nodes i ≡ Some node → IsPlacedNode arcs i node

-- the works are within the budget, and made so many nodes
pub record IsTreeState (tree : TreeState) (room : ℕ) : Type 0 where
  pub few_works : tree.works ≤ tree.budget
  pub most_works : tree.budget ≤ 50000
  pub most_arcs : tree.arcs ≤ 65280
  pub few_nodes : length tree.nodes ≤ 2 * tree.works + 1
  pub enough_room : 2 * tree.budget + 1 ≤ room
  pub placed : ArePlaced tree.arcs tree.nodes

-- a mark, or the other one where it is free
abbrev pub or_mark : Mark → Mark → Mark
or_mark Free other = other
or_mark Used other = Used
or_mark Unused other = Unused

-- some leaf that isn't dead has this bound, and none has a lesser one
pub record IsLeastIn (nodes : List Node) (bound : ℕ) : Type 0 where
  pub place : ℕ
  pub node : Node
  pub stands : slice_get nodes place ≡ Some node
  pub is_open : IsTrue (is_open_leaf node.status)
  pub reached : node.bound ≡ bound
  pub least : (i : ℕ) (other : Node) → slice_get nodes i ≡ Some other → IsTrue (is_open_leaf other.status) → bound ≤ other.bound

-- this is the least bound over the leaves that aren't dead, or there is no such leaf
abbrev pub IsLeastOf : List Node → Option ℕ → Type 0
IsLeastOf nodes None = (i : ℕ) (node : Node) → slice_get nodes i ≡ Some node → ¬ (IsTrue (is_open_leaf node.status))
IsLeastOf nodes (Some bound) = IsLeastIn nodes bound
