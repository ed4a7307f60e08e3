use Rattle.std.proofs.Common.{arith, ap, length}
use Rattle.arc_choices.proofs.GreatestCosts.{points_more}
use Rattle.arc_choices.proofs.greatest.ceiling.Goals as goal

pub loop-p-preserved : goal.loop-p-preserved
loop-p-preserved c =
    let e = ap length c.points.ensures.value in
    record {
      rest = points_more c.args.site.now c.args.arcs.now c.loop-p.p c.loop-p.total c.greatest_beyond-total.result (omega (arith, e, c.loop-p-test.true)) c.greatest_beyond-total.ensures.greatest c.loop-p.invariant.rest;
      small = omega (arith, c.loop-p.invariant.small, c.greatest_beyond-total.ensures.most);
    }
