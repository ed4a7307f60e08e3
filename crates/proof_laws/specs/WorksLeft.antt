-- The nodes of a tree that aren't worked, and how many works they can still take.
use Rattle.std.specs.Prelude.{◌≡◌, ℕ, ◌+◌, ◌-◌, ◌^◌, List, Some, Bool, true, false, sum_by, count_by}
use Rattle.std.specs.List.{enumerate_from}
use Rattle.cable_definitions.specs.declared.cable.Arc.{Arc}
use Rattle.cable_definitions.specs.declared.row.Mark.{Mark}
use Rattle.cable_definitions.specs.declared.row.Mark.TheVariants.{Free, Used, Unused}
use Rattle.cable_definitions.specs.Tree.{Status, Unworked, WasSplit, Stopped, WasDead, WasFull, Node, node_of, marks_of}

-- node number v was made and isn't worked
abbrev pub IsUnworked : List Node → ℕ → Type 0
IsUnworked nodes v = (node : Node) × (node_of nodes v ≡ Some node) × (node.status ≡ Unworked)

-- whether a mark leaves the arc free
abbrev pub is_free : Mark → Bool
is_free Free = true
is_free Used = false
is_free Unused = false

-- how many arcs are free in node v
abbrev pub free_in : List Arc → List Node → ℕ → ℕ
free_in arcs nodes v = count_by is_free (marks_of arcs nodes v)

-- the most works on a node with this status and so many free arcs and on the nodes below it: all nodes of a tree that splits each free arc; none
-- where it is worked
abbrev pub works_below : Status → ℕ → ℕ
works_below Unworked free = 2 ^ (free + 1) - 1
works_below WasSplit free = 0
works_below Stopped free = 0
works_below WasDead free = 0
works_below WasFull free = 0

-- the most works that the made nodes can still take
abbrev pub works_left : List Arc → List Node → ℕ
works_left arcs nodes = sum_by (λ (v, node). works_below node.status (free_in arcs nodes v)) (enumerate_from 1 nodes)
