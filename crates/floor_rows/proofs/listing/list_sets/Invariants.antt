use Rattle.std.proofs.Common.{◌≡◌, ◌++◌, length, take}
use Rattle.floor_rows.specs.Listed.{set_rows, weights_of}
use Rattle.floor_rows.proofs.listing.list_sets.Given as goal

abbrev pub invariant-loop-set : goal.invariant-loop-set
invariant-loop-set l = record {
  rows : l.pool ≡ l.initial.pool ++ set_rows (take l.set-index l.sets);
  weights : l.weights ≡ weights_of (length l.initial.pool) (take l.set-index l.sets);
}
