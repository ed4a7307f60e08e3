-- Weights that are worth at least as much as others.
use Rattle.std.specs.Prelude.{ℕ, ℤ, ◌≤ℤ◌, List}
use Rattle.cable_definitions.specs.declared.cable.Arc.{Arc}
use Rattle.cable_definitions.specs.declared.row.Mark.{Mark}
use Rattle.cable_definitions.specs.Site.{Site}
use Rattle.cable_definitions.specs.Row.{Row}
use Rattle.cable_definitions.specs.Choice.{IsValue}

-- the new weights have a value in the box of these marks that is at least that of the old ones
pub record AreWorth (s : Site) (arcs : List Arc) (rows : List Row) (marks : List Mark) (old new : List (ℕ × ℤ)) : Type 0 where
  pub before : ℤ
  pub after : ℤ
  pub is_before : IsValue s arcs rows marks old before
  pub is_after : IsValue s arcs rows marks new after
  pub at_least : before ≤ℤ after
