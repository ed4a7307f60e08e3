use Rattle.std.proofs.Common.{◌≡◌, length}
use Rattle.proof_tests.proofs.tables.marked.Given as goal

abbrev pub invariant-loop-chosen : goal.invariant-loop-chosen
invariant-loop-chosen l = length l.decisions ≡ length l.arcs
