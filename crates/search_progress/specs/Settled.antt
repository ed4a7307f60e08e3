-- Nodes that need no split, and those that do.
use Rattle.std.specs.Prelude.{◌≡◌, ℕ, ◌^◌, pos, ◌≤ℤ◌, ◌<ℤ◌, ℤ, List, Option, Some, None, nat_abs}
use Rattle.cable_definitions.specs.declared.cable.Arc.{Arc}
use Rattle.cable_definitions.specs.declared.row.Mark.{Mark}
use Rattle.cable_definitions.specs.declared.row.Act.TheVariants.{Full}
use Rattle.cable_definitions.specs.Site.{Site}
use Rattle.cable_definitions.specs.Row.{Row}
use Rattle.cable_definitions.specs.Tree.{IsBound}
use Rattle.search_progress.specs.Chosen.{Closes, NeedsSplit}
use Rattle.search_progress.specs.declared.settling.Choice.{Choice}

-- the choice ends the work on a node with these marks and this bound, where this cost is known, without a split; its bound is a number of cost units
-- below 2 ^ 100, and below 2 ^ 64 where it is the cost of a layout
pub record IsClosing (s : Site) (arcs : List Arc) (rows : List Row) (marks : List Mark) (known : Option ℕ) (bound : ℕ) (choice : Choice) : Type 0 where
  pub closes : Closes s arcs rows marks known bound choice.act (nat_abs choice.bound)
  pub not_negative : pos 0 ≤ℤ choice.bound
  pub small : choice.bound <ℤ pos (2 ^ 100)
  pub cost : choice.act ≡ Full → choice.bound <ℤ pos (2 ^ 64)

-- a choice that ends the work on such a node, or none where it needs a split
abbrev pub IsSettled : Site → List Arc → List Row → List Mark → Option ℕ → ℕ → Option Choice → Type 0
IsSettled s arcs rows marks known bound None = NeedsSplit s arcs rows marks known bound
IsSettled s arcs rows marks known bound (Some choice) = IsClosing s arcs rows marks known bound choice

-- the same at the bound of a value, of a node of which the node above has the parent's bound
pub record IsSettledAt (s : Site) (arcs : List Arc) (rows : List Row) (marks : List Mark) (known : Option ℕ) (parent : ℕ) (value : ℤ) (closed : Option Choice) : Type 0 where
  pub bound : ℕ
  pub is_bound : IsBound parent value bound
  pub settled : IsSettled s arcs rows marks known bound closed
