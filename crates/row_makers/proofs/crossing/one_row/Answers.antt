use Rattle.row_makers.proofs.Rivals.{rivals-swapped}
use Rattle.row_makers.proofs.crossing.one_row.Goals as goal

pub pair_row-requires-2-clause-rivals : goal.pair_row-requires-2-clause-rivals
pair_row-requires-2-clause-rivals c = rivals-swapped c.args.site.now c.args.arcs.now c.args.shares.now c.args.a c.args.b c.requires.rivals
