use Rattle.std.proofs.Common.{◌≡◌}
use Rattle.start_layout.proofs.growing.join_by_saving.Given as goal

abbrev pub invariant-loop-attempt : goal.invariant-loop-attempt
invariant-loop-attempt l = l.part.site ≡ l.fn.part.site
