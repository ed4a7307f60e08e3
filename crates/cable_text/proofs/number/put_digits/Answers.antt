-- Each turn puts the last digit that is left before those that were put.
use Rattle.std.proofs.Common.{◌≡◌, ℕ, sym, refl, arith, length-set}
use Rattle.std.proofs.lemmas.List.{append-nil, drop_all, drop-set}
use Rattle.cable_definitions.specs.Numeral.{digit_bytes}
use Rattle.cable_text.proofs.Numerals.{digit_bytes-zero, numeral-zero, numeral-digit_bytes, length-digit_bytes, length-digit_bytes_step, digit_put}
use Rattle.cable_text.proofs.number.put_digits.Goals as goal

pub loop-left-init : goal.loop-left-init
loop-left-init c =
    let s = length-digit_bytes 39 c.args.value (omega arith) in
    record {
      room = omega arith;
      within = omega arith;
      size = omega arith;
      digits =
          rw (drop_all 40 c.args.text.now (omega arith), append-nil (digit_bytes c.args.value))
          (sym (numeral-digit_bytes c.args.value (omega arith)));
    }

pub loop-left-preserved : goal.loop-left-preserved
loop-left-preserved c =
    let i = c.loop-left.invariant in
    let s = length-digit_bytes_step c.loop-left.left (omega arith) in
    record {
      room = omega arith;
      within = omega arith;
      size = omega (arith, length-set {A = ℕ});
      digits = digit_put c.loop-left.left c.loop-left.text c.loop-left.start _ (omega arith) (omega arith) (omega arith) i.digits;
    }

pub returns-clause-digits : goal.returns-clause-digits
returns-clause-digits c =
    let e : c.loop-left.left ≡ 0 = omega arith in
    let d = c.loop-left.invariant.digits in
    rw (e, digit_bytes-zero) at d

pub returns-then-value-eq0-clause-digits : goal.returns-then-value-eq0-clause-digits
returns-then-value-eq0-clause-digits c =
    let e : c.args.value ≡ 0 = omega arith in
    rw (e, numeral-zero, drop-set c.args.text.now 39 48 (omega arith), drop_all 40 c.args.text.now (omega arith)) refl
