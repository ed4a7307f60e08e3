use Rattle.std.proofs.Common.{◌≡◌}
use Rattle.row_makers.specs.Tried.{points_below}
use Rattle.row_makers.proofs.capacity.turbines_and_bends.Given as goal

abbrev pub invariant-loop-p : goal.invariant-loop-p
invariant-loop-p l = l.members.items ≡ points_below l.site l.p
