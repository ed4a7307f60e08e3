-- What a work on a node leaves.
use Rattle.std.specs.Prelude.{◌≡◌, List, [], ◌∷◌, ◌++◌, length, drop}
use Rattle.cable_definitions.specs.Tree.{Item, WorkItem}
use Rattle.cable_definitions.specs.Core.{are_row_items}
use Rattle.search_progress.specs.declared.progress.Progress.{Progress}

-- the work that was done last
abbrev pub last_item : Progress → Item
last_item p = WorkItem p.work.node p.work.weights p.work.act

-- the rows that were listed since, and then the work that was done last
abbrev pub items_since : Progress → Progress → List Item
items_since old new = are_row_items (drop (length old.pool) new.pool) ++ last_item new ∷ []

-- rows may have been listed, and a work have been begun: the nodes, the number of works, the lanes, the known layout and the last work are as before
abbrev pub IsOnlyListed : Progress → Progress → Type 0
IsOnlyListed old new = new ≡ record old { pool = new.pool; decisions = new.decisions; last = new.last }
