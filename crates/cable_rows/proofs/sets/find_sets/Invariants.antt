use Rattle.std.proofs.Common.{◌≡◌, take}
use Rattle.cable_rows.specs.Sums.{sets_of}
use Rattle.cable_rows.proofs.sets.find_sets.Given as goal

abbrev pub invariant-loop-own : goal.invariant-loop-own
invariant-loop-own l = l.sets ≡ sets_of l.pool (take l.own-index l.weights)
