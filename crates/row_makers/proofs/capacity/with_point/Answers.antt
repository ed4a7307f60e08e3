use Rattle.std.proofs.Common.{arith}
use Rattle.row_makers.proofs.Mosts.{point_tried}
use Rattle.row_makers.proofs.capacity.with_point.Goals as goal

pub returns : goal.returns
returns c =
    point_tried c.args.site.now c.args.sums.now.arcs c.args.sums.now.shares c.args.q c.args.most c.with_pairs.result c.requires.most c.with_pairs.ensures.most
    (omega (arith, c.with_set-alone.ensures.as_much, c.with_pairs.ensures.as_much)) (omega (arith, c.with_set-alone.ensures.tried, c.with_pairs.ensures.as_much)) c.with_pairs.ensures.tried
