-- The digits that were counted and those that are left, of which the last is counted before, are the number's.
use Rattle.std.proofs.Common.{◌≡◌, ◌+◌, ◌^◌, ◌<◌, ◌≤◌, length}
use Rattle.std.specs.Fmt.{decimal}
use Rattle.cable_text.proofs.line.digit_count.Given as goal

abbrev pub invariant-loop-left : goal.invariant-loop-left
invariant-loop-left l = record {
  digits : length (decimal l.left) + l.count ≡ length (decimal l.fn.value) + 1;
  small : l.left < 2 ^ 64;
  few : l.count ≤ 21;
}

abbrev pub decreases-loop-left : goal.decreases-loop-left
decreases-loop-left l = l.left
