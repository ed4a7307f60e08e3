-- Rows that are found.
use Rattle.std.specs.Prelude.{◌≡◌, ℕ, List}
use Rattle.cable_definitions.specs.declared.cable.Arc.{Arc}
use Rattle.cable_definitions.specs.declared.cable.Cable.{Cable}
use Rattle.cable_definitions.specs.declared.row.RowKind.TheVariants.{Cut, One}
use Rattle.cable_definitions.specs.Site.{Site}
use Rattle.cable_definitions.specs.Layout.{IsLegal}
use Rattle.cable_definitions.specs.Row.{Row, IsWellFormed, Holds}
use Rattle.bound_shares.specs.Shares.{ViolateCut, ViolateOne}

-- a `Cut` that is well formed, holds of every legal layout, and is violated by the shares
pub record IsViolatedCut (s : Site) (arcs : List Arc) (shares : List ℕ) (row : Row) : Type 0 where
  pub kind : row.kind ≡ Cut
  pub well_formed : IsWellFormed s arcs row
  pub holds : (cables : List Cable) → IsLegal s cables → Holds s arcs row cables
  pub violated : ViolateCut s arcs shares row.members

-- a `One` that is well formed, holds of every legal layout, and is violated by the shares
pub record IsViolatedOne (s : Site) (arcs : List Arc) (shares : List ℕ) (row : Row) : Type 0 where
  pub kind : row.kind ≡ One
  pub well_formed : IsWellFormed s arcs row
  pub holds : (cables : List Cable) → IsLegal s cables → Holds s arcs row cables
  pub violated : ViolateOne shares row.members
