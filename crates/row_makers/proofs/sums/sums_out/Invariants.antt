use Rattle.row_makers.proofs.Tables.{AreOutUpto}
use Rattle.row_makers.proofs.sums.sums_out.Given as goal

abbrev pub invariant-loop-a : goal.invariant-loop-a
invariant-loop-a l = AreOutUpto l.arcs l.shares l.a l.sums
