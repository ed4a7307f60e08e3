-- The open nodes, and the one that is taken first.
use Rattle.std.specs.Prelude.{◌≡◌, ℕ, ◌<◌, ◌^◌, pos, ◌≤ℤ◌, ◌<ℤ◌, List, slice_get, Option, Some, None, Any}
use Rattle.cable_definitions.specs.Tree.{Node, Unworked, node_of}
use Rattle.search_progress.specs.declared.open.OpenNode.{OpenNode}

-- some lane holds the node
abbrev pub IsIn : List (Option ℕ) → ℕ → Type 0
IsIn lanes v = Any (λ lane. lane ≡ Some v) lanes

-- the node of this number isn't worked, and no lane holds it
pub record IsFree (nodes : List Node) (lanes : List (Option ℕ)) (v : ℕ) : Type 0 where
  pub node : Node
  pub made : node_of nodes v ≡ Some node
  pub unworked : node.status ≡ Unworked
  pub not_held : ¬ (IsIn lanes v)

-- the node is open with this bound, and of the nodes at the first n places each that is open has at least this bound
pub record IsLeastBelow (nodes : List Node) (lanes : List (Option ℕ)) (numbers : List ℕ) (n : ℕ) (first : OpenNode) : Type 0 where
  pub is_free : IsFree nodes lanes first.node
  pub bound_is : first.bound ≡ pos is_free.node.bound
  pub small : first.bound <ℤ pos (2 ^ 100)
  pub least : (place v : ℕ) (other : IsFree nodes lanes v) → place < n → slice_get numbers place ≡ Some v → first.bound ≤ℤ pos other.node.bound

-- that of the nodes at the first n places, or none where none of them is open
abbrev pub IsFirstBelow : List Node → List (Option ℕ) → List ℕ → ℕ → Option OpenNode → Type 0
IsFirstBelow nodes lanes numbers n None = (place v : ℕ) → place < n → slice_get numbers place ≡ Some v → ¬ (IsFree nodes lanes v)
IsFirstBelow nodes lanes numbers n (Some first) = IsLeastBelow nodes lanes numbers n first
