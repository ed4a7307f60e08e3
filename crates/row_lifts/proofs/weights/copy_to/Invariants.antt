use Rattle.std.proofs.Common.{◌≡◌, take}
use Rattle.row_lifts.proofs.weights.copy_to.Given as goal

abbrev pub invariant-loop-own : goal.invariant-loop-own
invariant-loop-own l = l.target ≡ take l.own-index l.weights
