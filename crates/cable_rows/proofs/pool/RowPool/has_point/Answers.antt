use Rattle.std.proofs.Common.{List, slice_get, ap, ◌∙◌}
use Rattle.cable_definitions.specs.Row.{Row}
use Rattle.cable_rows.proofs.Pools.{past_table}
use Rattle.cable_rows.proofs.pool.RowPool.has_point.Goals as goal

pub returns : goal.returns
returns c = λ r e n.
    let row = c.args.row in
    past_table c.self.inside.members.items c.self.inside.rows.items row c.args.p c.index-stored.result.now r c.self.invariant.stored c.index-stored.ensures
    (ap (λ (rows : List Row). slice_get rows row) c.self.view_is ∙ e) n c.if-p-lt256.false
