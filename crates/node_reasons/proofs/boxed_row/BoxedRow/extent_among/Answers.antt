use Rattle.std.proofs.Common.{ℕ, ◌+◌, ◌*◌, ◌<◌, ◌≤◌, List, length, get_or, take, refl, ap, sym, subst, arith}
use Rattle.std.proofs.lemmas.List.{take_all}
use Rattle.cable_definitions.specs.Row.{is_member}
use Rattle.node_reasons.specs.RowBox.{IsExtentAt}
use Rattle.node_reasons.proofs.OwnSums.{among_skip}
use Rattle.node_reasons.proofs.RowSums.{none_extent, alike_extent, number_extent}
use Rattle.node_reasons.proofs.boxed_row.BoxedRow.extent_among.Goals.{then-number-len, else-number-len}
use Rattle.node_reasons.proofs.boxed_row.BoxedRow.extent_among.Goals as goal

pub loop-number-init : goal.loop-number-init
loop-number-init c = none_extent c.args.self.now (λ a. is_member (take 0 c.args.numbers.now) a) 0 c.nothing-sum.result c.nothing-sum.ensures.least c.nothing-sum.ensures.greatest (λ a. refl)

pub loop-number-preserved : goal.loop-number-preserved
loop-number-preserved c =
    let b = c.args.self.now in
    let numbers = c.args.numbers.now in
    let i = c.loop-number.number-index in
    let n = get_or numbers i 0 in
    elim c.if-number-len.branch [
      | then-number-len w ↦
          let within : n < length b.arcs.now = omega (arith, w.if-number-len.true, c.len.ensures.count) in
          subst (IsExtentAt b (λ a. is_member (take (i + 1) numbers) a) (2000000 * (i + 1))) (sym w.sum-is)
          (number_extent b numbers i c.loop-number.sum w.extent_of_arc.result w.added-sum.result w.mark-mark.result c.requires.ascending c.loop-number-test.true within w.mark-mark.ensures w.extent_of_arc.ensures c.loop-number.invariant
          w.added-sum.ensures.least w.added-sum.ensures.greatest)
      | else-number-len w ↦
          let past : length b.arcs.now ≤ n = omega (arith, w.if-number-len.false, c.len.ensures.count) in
          subst (IsExtentAt b (λ a. is_member (take (i + 1) numbers) a) (2000000 * (i + 1))) (sym w.sum-is)
          (alike_extent b (λ a. is_member (take i numbers) a) (λ a. is_member (take (i + 1) numbers) a) (2000000 * i) (2000000 * (i + 1)) c.loop-number.sum c.loop-number.invariant
          (λ a l. among_skip numbers i (length b.arcs.now) c.loop-number-test.true past a l) (omega arith))
    ]

pub returns : goal.returns
returns c =
    let numbers = c.args.numbers.now in
    let i = c.loop-number.number-index in
    alike_extent c.args.self.now (λ a. is_member (take i numbers) a) (λ a. is_member numbers a) (2000000 * i) 200000000000 c.loop-number.sum c.loop-number.invariant
    (λ a l. ap (λ (ns : List ℕ). is_member ns a) (take_all i numbers c.loop-number-test.false)) (omega arith)
