-- The digits that are left, and then those that were put, are the number's.
use Rattle.std.proofs.Common.{◌≡◌, ◌+◌, ◌≤◌, ◌++◌, length, drop}
use Rattle.cable_definitions.specs.Numeral.{numeral, digit_bytes}
use Rattle.cable_text.proofs.number.put_digits.Given as goal

abbrev pub invariant-loop-left : goal.invariant-loop-left
invariant-loop-left l = record {
  room : length (digit_bytes l.left) + 1 ≤ l.start;
  within : l.start ≤ 40;
  size : length l.text ≡ 40;
  digits : digit_bytes l.left ++ drop l.start l.text ≡ numeral l.fn.value;
}

abbrev pub decreases-loop-left : goal.decreases-loop-left
decreases-loop-left l = l.left
