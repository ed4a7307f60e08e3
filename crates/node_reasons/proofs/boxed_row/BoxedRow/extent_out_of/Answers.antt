use Rattle.std.proofs.Common.{ℕ, ◌*◌, List, take, slice_get, ap, arith}
use Rattle.std.proofs.lemmas.List.{take_all}
use Rattle.node_reasons.specs.Own.{starts_in}
use Rattle.node_reasons.proofs.OwnSums.{no_starts}
use Rattle.node_reasons.proofs.RowSums.{none_extent, alike_extent, point_extent}
use Rattle.node_reasons.proofs.boxed_row.BoxedRow.extent_out_of.Goals as goal

pub loop-point-init : goal.loop-point-init
loop-point-init c =
    let b = c.args.self.now in
    none_extent b (λ a. starts_in (take 0 c.args.points.now) (slice_get b.arcs.now a)) 0 c.nothing-sum.result c.nothing-sum.ensures.least c.nothing-sum.ensures.greatest (λ a. no_starts (slice_get b.arcs.now a))

pub loop-point-preserved : goal.loop-point-preserved
loop-point-preserved c =
    point_extent c.args.self.now c.args.points.now c.loop-point.point-index c.loop-point.sum c.extent_out.result c.added-sum.result c.requires.ascending c.loop-point-test.true c.loop-point.invariant c.extent_out.ensures
    c.added-sum.ensures.least c.added-sum.ensures.greatest

pub returns : goal.returns
returns c =
    let b = c.args.self.now in
    let points = c.args.points.now in
    let i = c.loop-point.point-index in
    alike_extent b (λ a. starts_in (take i points) (slice_get b.arcs.now a)) (λ a. starts_in points (slice_get b.arcs.now a)) (200000000000 * i) 60000000000000 c.loop-point.sum c.loop-point.invariant
    (λ a l. ap (λ (ps : List ℕ). starts_in ps (slice_get b.arcs.now a)) (take_all i points c.loop-point-test.false)) (omega arith)
