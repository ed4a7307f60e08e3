use Rattle.std.proofs.Common.{arith}
use Rattle.cable_text.proofs.Digits.{one_digit, digit_more, few_digits}
use Rattle.cable_text.proofs.line.digit_count.Goals as goal

pub loop-left-preserved : goal.loop-left-preserved
loop-left-preserved c =
    let i = c.loop-left.invariant in
    let more = digit_more c.loop-left.left (omega arith) (omega arith) in
    let few = few_digits c.args.value (omega arith) in
    record { digits = omega (arith, more); small = omega arith; few = omega (arith, few, more) }

pub returns : goal.returns
returns c = let i = c.loop-left.invariant in omega (arith, one_digit c.loop-left.left (omega arith))
