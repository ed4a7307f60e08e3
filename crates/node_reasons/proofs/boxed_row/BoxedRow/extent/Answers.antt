use Rattle.std.proofs.Common.{arith}
use Rattle.std.proofs.lemmas.Int.{ints}
use Rattle.proof_laws.proofs.Lists.{some_at}
use Rattle.cable_definitions.specs.Choice.{AtMost, AtLeast}
use Rattle.node_reasons.proofs.OwnSums.{own_whole}
use Rattle.node_reasons.proofs.boxed_row.BoxedRow.extent.Goals as goal

pub extent_among-requires-clause-ascending : goal.extent_among-requires-clause-ascending
extent_among-requires-clause-ascending c = let r = some_at c.args.self.now.pool.now c.args.self.now.row c.requires.listed in (c.further_arcs-further.ensures r.0 r.1).ascending

pub extent_among-requires-clause-few : goal.extent_among-requires-clause-few
extent_among-requires-clause-few c = let r = some_at c.args.self.now.pool.now c.args.self.now.row c.requires.listed in (c.further_arcs-further.ensures r.0 r.1).few

pub returns-clause-least : goal.returns-clause-least
returns-clause-least c = λ r e.
    own_whole AtMost (λ x. omega (arith, ints)) c.args.self.now.site.now c.args.self.now.arcs.now c.args.self.now.decisions.now r c.points_of-points.result.now c.further_arcs-further.result.now c.extent_out_of.result.least c.extent_among.result.least c.added.result.least
    c.requires.valid c.requires.are_arcs c.requires.count (c.points_of-points.ensures.points r e) (c.further_arcs-further.ensures r e) (c.extent_out_of.ensures.least.sum r e) (c.extent_among.ensures.least.sum r e) c.added.ensures.least

pub returns-clause-greatest : goal.returns-clause-greatest
returns-clause-greatest c = λ r e.
    own_whole AtLeast (λ x. omega (arith, ints)) c.args.self.now.site.now c.args.self.now.arcs.now c.args.self.now.decisions.now r c.points_of-points.result.now c.further_arcs-further.result.now c.extent_out_of.result.greatest c.extent_among.result.greatest c.added.result.greatest
    c.requires.valid c.requires.are_arcs c.requires.count (c.points_of-points.ensures.points r e) (c.further_arcs-further.ensures r e) (c.extent_out_of.ensures.greatest.sum r e) (c.extent_among.ensures.greatest.sum r e) c.added.ensures.greatest
