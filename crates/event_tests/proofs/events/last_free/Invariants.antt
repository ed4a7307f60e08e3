use Rattle.std.proofs.Common.{◌≡◌, ◌≢◌, ℕ, ◌<◌, List, Some, None, Option, slice_get}
use Rattle.cable_definitions.specs.declared.row.Mark.{Mark}
use Rattle.cable_definitions.specs.declared.row.Mark.TheVariants.{Free}
use Rattle.event_tests.proofs.events.last_free.Given as goal

-- the arc is free, or none of those below a number is
abbrev pub IsFreeBelow : List Mark → ℕ → Option ℕ → Type 0
IsFreeBelow marks n (Some a) = slice_get marks a ≡ Some Free
IsFreeBelow marks n None = (a : ℕ) → a < n → slice_get marks a ≢ Some Free

abbrev pub invariant-loop-arc : goal.invariant-loop-arc
invariant-loop-arc l = IsFreeBelow l.decisions l.arc l.last
