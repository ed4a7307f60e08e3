-- Nodes whose arcs are all decided, and the rows that tell whether their used arcs are a layout.
use Rattle.std.specs.Prelude.{◌≡◌, ◌≢◌, ◌⊎◌, ℕ, List, length, slice_get, Some}
use Rattle.cable_definitions.specs.declared.cable.Arc.{Arc}
use Rattle.cable_definitions.specs.declared.row.Mark.{Mark}
use Rattle.cable_definitions.specs.declared.row.Mark.TheVariants.{Free}
use Rattle.cable_definitions.specs.declared.row.RowKind.TheVariants.{Out, Inlet, Bend}
use Rattle.cable_definitions.specs.Site.{Site}
use Rattle.cable_definitions.specs.Row.{Row, IsWellFormed}

-- each arc has a mark, and none is free
pub record AreDecided (arcs : List Arc) (marks : List Mark) : Type 0 where
  pub as_many : length marks ≡ length arcs
  pub none_free : (k : ℕ) (mark : Mark) → slice_get marks k ≡ Some mark → mark ≢ Free

-- every well-formed `Out`, `Inlet` and `Bend` row is listed
abbrev pub HasPointRows : Site → List Arc → List Row → Type 0
HasPointRows s arcs rows = (row : Row) → (row.kind ≡ Out) ⊎ ((row.kind ≡ Inlet) ⊎ (row.kind ≡ Bend)) → IsWellFormed s arcs row → (r : ℕ) × (slice_get rows r ≡ Some row)
