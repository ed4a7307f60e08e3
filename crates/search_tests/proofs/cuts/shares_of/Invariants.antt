use Rattle.std.proofs.Common.{◌≡◌, length}
use Rattle.search_tests.proofs.cuts.shares_of.Given as goal

abbrev pub invariant-loop-cable : goal.invariant-loop-cable
invariant-loop-cable l = length l.shares ≡ length l.arcs
