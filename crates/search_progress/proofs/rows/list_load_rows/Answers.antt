use Rattle.std.proofs.Common.{◌+◌, arith}
use Rattle.search_progress.proofs.RowsListed.{lists-then, few-most}
use Rattle.search_progress.proofs.rows.list_load_rows.Goals as goal

pub returns-clause-lists : goal.returns-clause-lists
returns-clause-lists c = lists-then c.args.site.now c.args.arcs.now c.args.pool.now c.list_rows_of.new.pool c.list_rows_of-2.new.pool c.list_rows_of.ensures.lists c.list_rows_of-2.ensures.lists

pub returns-clause-few : goal.returns-clause-few
returns-clause-few c = λ most f.
    few-most c.list_rows_of-2.new.pool (most + 256 + 256) (most + 512) (c.list_rows_of-2.ensures.few (most + 256) (c.list_rows_of.ensures.few most f)) (omega arith)
