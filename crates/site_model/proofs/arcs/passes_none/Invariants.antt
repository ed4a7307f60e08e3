use Rattle.std.proofs.Common.{ℕ, ◌<◌}
use Rattle.site_model.specs.Passing.{IsNotPassed}
use Rattle.site_model.proofs.arcs.passes_none.Given as goal

abbrev pub invariant-loop-r : goal.invariant-loop-r
invariant-loop-r l = (r : ℕ) → r < l.r → IsNotPassed l.points l.from l.to l.a l.b r
