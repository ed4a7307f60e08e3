-- The digits that are left, after those of the value so far, write the whole number.
use Rattle.std.proofs.Common.{◌≡◌, drop}
use Rattle.cable_text.specs.Number.{value_after}
use Rattle.cable_text.proofs.number.digits_value.Given as goal

abbrev pub invariant-loop-digit : goal.invariant-loop-digit
invariant-loop-digit l = value_after l.value (drop l.digit-index l.digits) ≡ value_after 0 l.digits
