-- Ten times the value so far is above 2^127.
use Rattle.std.proofs.Common.{arith}
use Rattle.cable_text.proofs.Reading.{value_after-drop}
use Rattle.cable_text.proofs.number.digits_value.Goals as goal

pub returns-then-value-clause-large : goal.returns-then-value-clause-large
returns-then-value-clause-large c =
    let l = c.loop-digit in
    omega (arith, value_after-drop l.value c.args.digits.now l.digit-index _ (omega arith) l.invariant)
