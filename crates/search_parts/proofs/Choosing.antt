-- The arc that a node is split on.
use Rattle.std.proofs.Common.{◌≡◌, ◌≢◌, ℕ, ◌<◌, List, slice_get, Some, None, Option}
use Rattle.cable_definitions.specs.declared.row.Mark.{Mark}
use Rattle.cable_definitions.specs.declared.row.Mark.TheVariants.{Free}

-- a free arc, or none where none of the first n arcs is free
abbrev pub IsFreeBelow : List Mark → ℕ → Option ℕ → Type 0
IsFreeBelow marks n (Some a) = slice_get marks a ≡ Some Free
IsFreeBelow marks n None = (a : ℕ) → a < n → slice_get marks a ≢ Some Free
