-- Runs of a reader of which one goes further than the other.
use Rattle.std.specs.Prelude.{◌≡◌, ℕ, List, ◌++◌}
use Rattle.cable_definitions.specs.declared.cable.Arc.{Arc}
use Rattle.cable_definitions.specs.Site.{Site}
use Rattle.cable_definitions.specs.Refusal.{DocLine, Reader, ReadsLines}

-- The run over the lines `all` to `end` begins with the run over these lines to `stop`, which leaves the bytes `left`.
pub record GoesFurther (s : Site) (arcs : List Arc) (lines : List DocLine) (stop : Reader) (left : List ℕ) (all : List DocLine) (end : Reader) (rest : List ℕ) : Type 0 where
  pub more : List DocLine
  pub lines_are : all ≡ lines ++ more
  pub reads : ReadsLines s arcs stop left more end rest
