use Rattle.std.proofs.Common.{take}
use Rattle.cable_rows.specs.Sums.{IsTable}
use Rattle.cable_rows.proofs.sums.table_of.Given as goal

abbrev pub invariant-loop-own : goal.invariant-loop-own
invariant-loop-own l = IsTable l.part l.pool (take l.own-index l.weights) l.table
