use Rattle.row_makers.proofs.Rivals.{well_formed-range, well_formed-few, well_formed-order}
use Rattle.row_makers.proofs.crossing.is_violated.Goals as goal

pub sum_of-requires-clause-range : goal.sum_of-requires-clause-range
sum_of-requires-clause-range c = well_formed-range c.args.site.now c.args.arcs.now c.args.members.now c.in-Ok.ensures.well_formed

pub sum_of-requires-clause-few : goal.sum_of-requires-clause-few
sum_of-requires-clause-few c = well_formed-few c.args.site.now c.args.arcs.now c.args.members.now c.in-Ok.ensures.well_formed

pub sum_of-requires-clause-order : goal.sum_of-requires-clause-order
sum_of-requires-clause-order c = well_formed-order c.args.site.now c.args.arcs.now c.args.members.now c.in-Ok.ensures.well_formed
