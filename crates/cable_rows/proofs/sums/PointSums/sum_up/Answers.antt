use Rattle.cable_rows.proofs.Tables.{sums_small}
use Rattle.cable_rows.proofs.sums.PointSums.sum_up.Goals as goal

pub returns-clause-small : goal.returns-clause-small
returns-clause-small c = sums_small c.args.pool.now c.args.weights.now _ c.requires c.as_slice-short.ensures.at_most (record {
  use_from_is = c.table_of-self.ensures;
  use_to_is = c.table_of-self-2.ensures;
  load_from_is = c.table_of-self-3.ensures;
  load_to_is = c.table_of-self-4.ensures;
})
