use Rattle.std.proofs.Common.{arith, ◌∙◌, length-set}
use Rattle.std.proofs.lemmas.Option.{slice_get_within}
use Rattle.crossing_index.proofs.Siding.{sides_more}
use Rattle.crossing_index.proofs.sides.sides_by.Goals as goal

pub loop-p-preserved : goal.loop-p-preserved
loop-p-preserved c = record {
  room = length-set c.loop-p.sides c.loop-p.p c.side_of.result ∙ c.loop-p.invariant.room;
  below = sides_more c.args.points.now c.args.a c.args.b c.loop-p.sides c.loop-p.p c.side_of.result c.index-points-p.result c.loop-p.invariant.room (omega (arith, c.loop-p-test.true, c.requires)) c.index-points-p.is c.side_of.ensures c.loop-p.invariant.below;
}

pub returns : goal.returns
returns c = λ p point e. c.loop-p.invariant.below p (omega (arith, slice_get_within c.args.points.now p point e, c.loop-p-test.false)) point e
