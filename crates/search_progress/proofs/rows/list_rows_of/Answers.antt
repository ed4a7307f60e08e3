use Rattle.std.proofs.Common.{◌+◌, length, ap, arith}
use Rattle.search_progress.proofs.RowsListed.{lists-then, few-most, rows-more}
use Rattle.search_progress.proofs.rows.list_rows_of.Goals as goal

pub loop-point-preserved : goal.loop-point-preserved
loop-point-preserved c =
    let at = c.loop-point.point in
    let pool = c.list_row.new.pool in
    let count = ap length c.points.ensures.value in
    let most_points = c.points.ensures.valid.points_count in
    let test = c.loop-point-test.true in
    record {
      lists = lists-then c.args.site.now c.args.arcs.now c.args.pool.now c.loop-point.pool pool c.loop-point.invariant.lists c.list_row.ensures.lists;
      few = λ most f. few-most pool (most + at + 1) (most + (at + 1)) (c.list_row.ensures.few (most + at) (c.loop-point.invariant.few most f)) (omega arith);
      rows = λ f.
          rows-more c.args.site.now c.args.kind at c.args.pool.now c.loop-point.pool pool (omega (arith, count, test)) (c.loop-point.invariant.rows f)
          (c.list_row.ensures.row (few-most c.loop-point.pool (1024 + at) 1280 (c.loop-point.invariant.few 1024 f) (omega (arith, count, test, most_points))));
    }
