use Rattle.std.proofs.Common.{◌*◌, [], ◌∷◌, slice_get, arith}
use Rattle.node_reasons.specs.Own.{starts_in}
use Rattle.node_reasons.proofs.OwnSums.{outs_begin, outs_end, starts_below}
use Rattle.node_reasons.proofs.RowSums.{none_extent, alike_extent, out_extent}
use Rattle.node_reasons.proofs.boxed_row.BoxedRow.extent_out.Goals as goal

pub loop-number-init : goal.loop-number-init
loop-number-init c =
    let b = c.args.self.now in
    let first = c.out_of-first.result.0 in
    record {
      sums =
          none_extent b (starts_below b.arcs.now (c.args.p ∷ []) first) (2000000 * first) c.nothing-sum.result c.nothing-sum.ensures.least c.nothing-sum.ensures.greatest
          (outs_begin b.arcs.now c.args.p first c.out_of-first.ensures.first);
      within = c.out_of-first.ensures.first.within;
    }

pub loop-number-preserved : goal.loop-number-preserved
loop-number-preserved c = record {
  sums =
      out_extent c.args.self.now c.args.p c.out_of-first.result.0 c.out_of-first.result.1 c.loop-number.number c.loop-number.sum c.extent_of_arc.result c.added-sum.result c.mark-mark.result c.out_of-first.ensures.first
      c.out_of-first.ensures.past (omega arith) c.loop-number-test.true c.mark-mark.ensures c.extent_of_arc.ensures c.loop-number.invariant.sums c.added-sum.ensures.least c.added-sum.ensures.greatest;
  within = let most = c.out_of-first.ensures.past.within in omega (arith, c.loop-number-test.true, most);
}

pub returns : goal.returns
returns c =
    let b = c.args.self.now in
    alike_extent b (starts_below b.arcs.now (c.args.p ∷ []) c.loop-number.number) (λ a. starts_in (c.args.p ∷ []) (slice_get b.arcs.now a)) (2000000 * c.loop-number.number) 200000000000 c.loop-number.sum c.loop-number.invariant.sums
    (λ a l. outs_end b.arcs.now c.args.p c.out_of-first.result.1 c.loop-number.number c.out_of-first.ensures.past c.loop-number-test.false a l)
    (omega (arith, c.loop-number.invariant.within, c.len-few.ensures.count, c.len-few.ensures.most))
