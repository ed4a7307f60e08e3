use Rattle.row_makers.proofs.Tables.{AreBetweenUpto}
use Rattle.row_makers.proofs.sums.sums_between.Given as goal

abbrev pub invariant-loop-a : goal.invariant-loop-a
invariant-loop-a l = AreBetweenUpto l.arcs l.shares l.a l.sums.items
