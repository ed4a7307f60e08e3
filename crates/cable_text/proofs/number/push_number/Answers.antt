-- The digits that were put, or `-` and these, spell the value.
use Rattle.std.proofs.Common.{pos, ◌≤ℤ◌, ◌<ℤ◌, arith}
use Rattle.std.specs.Int.{w128}
use Rattle.std.proofs.lemmas.Int.{ints, to_z-of_z}
use Rattle.cable_text.proofs.Numerals.{natural_put, negative_put}
use Rattle.cable_text.proofs.number.push_number.Goals as goal

pub returns-then-value-ge0 : goal.returns-then-value-ge0
returns-then-value-ge0 g c =
    let z = c.args.value in
    let p = c.put_digits-start in
    let back = to_z-of_z w128 z c.ranges.value in
    let test = rw back at c.if-value-ge0.true in
    let size = rw back at c.unsigned_abs.ensures.value in
    let sign : pos 0 ≤ℤ z = grind (arith, ints) in
    record { writes = rw (natural_put z c.unsigned_abs.result p.result p.new.text p.array_long sign size (omega arith) p.ensures.digits) at c.push.ensures.writes }

pub returns : goal.returns
returns g c =
    let z = c.args.value in
    let p = c.put_digits-start in
    let back = to_z-of_z w128 z c.ranges.value in
    let test = rw back at c.if-value-ge0.false in
    let size = rw back at c.unsigned_abs.ensures.value in
    let sign : z <ℤ pos 0 = grind (arith, ints) in
    record { writes = rw (negative_put z c.unsigned_abs.result p.result p.new.text p.array_long p.ensures.room p.ensures.within sign size (omega arith) p.ensures.digits) at c.push-2.ensures.writes }
