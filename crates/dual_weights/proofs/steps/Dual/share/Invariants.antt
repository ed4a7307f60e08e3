use Rattle.std.proofs.Common.{◌≡◌, length}
use Rattle.dual_weights.proofs.steps.Dual.share.Given as goal

abbrev pub invariant-loop-place : goal.invariant-loop-place
invariant-loop-place l = length l.shares ≡ length l.initial.shares
