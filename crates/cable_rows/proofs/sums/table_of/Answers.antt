use Rattle.std.proofs.Common.{ℕ, ◌+◌, ◌^◌, ◌<◌, ◌≤◌, ℤ, pos, ◌+ℤ◌, ◌*ℤ◌, List, length, get_or, take, to_z, of_z, unsigned_abs, ap, sym, ◌∙◌, subst, arith}
use Rattle.std.specs.Prelude.{AllPairs}
use Rattle.std.specs.Int.{w64, w128}
use Rattle.std.proofs.lemmas.Int.{ints, to_z-of_z}
use Rattle.cable_definitions.specs.Row.{is_member, one_if}
use Rattle.cable_rows.proofs.Weighing.{back, next_weight}
use Rattle.cable_rows.specs.Sums.{sign, part_of, IsTable}
use Rattle.cable_rows.proofs.Tables.{part_small, sum_small, table_more, table_same, zeros, no_sign}
use Rattle.cable_rows.proofs.sums.table_of.Goals.{then-sign-ne0, else-sign-ne0}
use Rattle.cable_rows.proofs.sums.table_of.Goals as goal

pub loop-own-init : goal.loop-own-init
loop-own-init c = λ p l. zeros 256 p

pub add-requires-clause-small : goal.add-requires-clause-small
add-requires-clause-small c = λ p l.
    let few = c.as_slice-own-items.ensures.at_most in
    let within : c.loop-own.own-index < 1024 = omega (arith, ap (length {A = ℕ × ℤ}) c.as_slice-own-items.ensures.value, c.loop-own-test.true, few) in
    let small = sum_small (part_of c.args.part p) c.args.pool.now c.args.weights.now c.loop-own.own-index c.requires (part_small c.args.part p) in
    subst (λ (z : ℤ). unsigned_abs z ≤ 2 ^ 86) (sym (c.loop-own.invariant p l)) (omega (arith, small, within))

pub add-requires-clause-ascending : goal.add-requires-clause-ascending
add-requires-clause-ascending c =
    let n = next_weight c.args.pool.now c.args.weights.now c.as_slice-own-items.result.now c.loop-own.own-index c.requires c.as_slice-own-items.ensures.value c.loop-own-test.true c.as_slice-own-items.ensures.at_most in
    subst (λ (ms : List ℕ). AllPairs (λ x y. x < y) ms) (sym (c.members.ensures.members n.row n.listed)) (c.members.ensures.ascending n.row n.listed)

pub loop-own-preserved : goal.loop-own-preserved
loop-own-preserved c =
    let rows = c.args.pool.now in
    let ws = c.args.weights.now in
    let i = c.loop-own.own-index in
    let w = get_or c.as_slice-own-items.result.now i (0, pos 0) in
    let n = next_weight rows ws c.as_slice-own-items.result.now i c.requires c.as_slice-own-items.ensures.value c.loop-own-test.true c.as_slice-own-items.ensures.at_most in
    let weight_small = n.small in
    let sign_is = c.sign_of-sign.ensures.sign ∙ ap (sign c.args.part) (c.kind.ensures n.row n.listed) in
    let sign_small = c.sign_of-sign.ensures.small in
    elim c.if-sign-ne0.branch [
      | then-sign-ne0 x ↦
          let amount = to_z w128 (of_z w128 x.signed.result) in
          let signed_small = x.signed.ensures.small in
          let weight_kept = back w.1 (omega (arith, weight_small)) in
          let sign_kept = to_z-of_z w64 c.sign_of-sign.result (omega (arith, ints, sign_small)) ∙ sign_is in
          let amount_is = back x.signed.result (omega (arith, signed_small)) ∙ x.signed.ensures.product ∙ (λ j. weight_kept j *ℤ sign_kept j) in
          subst (IsTable c.args.part rows (take (i + 1) ws)) (sym x.table-is)
          (table_more c.args.part rows ws i w n.row c.loop-own.table x.add.new.table amount n.next n.listed amount_is
          (λ p l. x.add.ensures p l ∙ ap (λ (ms : List ℕ). get_or c.loop-own.table p (pos 0) +ℤ amount *ℤ one_if (is_member ms p)) (x.members.ensures.members n.row n.listed)) c.loop-own.invariant)
      | else-sign-ne0 x ↦ subst (IsTable c.args.part rows (take (i + 1) ws)) (sym x.table-is)
          (table_same c.args.part rows ws i w n.row c.loop-own.table n.next n.listed (sym sign_is ∙ no_sign c.sign_of-sign.result sign_small x.if-sign-ne0.false) c.loop-own.invariant)
    ]
