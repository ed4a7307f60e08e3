use Rattle.std.proofs.Common.{arith, ap, length}
use Rattle.row_makers.proofs.Mosts.{all_tried}
use Rattle.row_makers.proofs.capacity.most_missing.Goals as goal

pub returns : goal.returns
returns c =
    all_tried c.args.site.now c.args.sums.now.arcs c.args.sums.now.shares c.loop-q.q c.loop-q.most c.loop-q.invariant (omega (arith, c.loop-q-test.false, ap length c.points.ensures.value))
