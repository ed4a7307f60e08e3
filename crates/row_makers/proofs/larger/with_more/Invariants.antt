use Rattle.std.proofs.Common.{◌<◌, length}
use Rattle.std.specs.Prelude.{All}
use Rattle.row_makers.proofs.larger.with_more.Given as goal

abbrev pub invariant-loop-arc : goal.invariant-loop-arc
invariant-loop-arc l = All (λ m. m < length l.arcs) l.members.items

abbrev pub invariant-loop-arc-2 : goal.invariant-loop-arc-2
invariant-loop-arc-2 l = All (λ m. m < length l.arcs) l.members.items
