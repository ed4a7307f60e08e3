use Rattle.std.proofs.Common.{◌≡◌, ◌-◌, length}
use Rattle.start_layout.proofs.growing.join_all.Given as goal

abbrev pub invariant-loop : goal.invariant-loop
invariant-loop l = l.part.site ≡ l.fn.part.site

abbrev pub decreases-loop : goal.decreases-loop
decreases-loop l = 256 - length l.part.cables
