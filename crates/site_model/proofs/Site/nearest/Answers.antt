use Rattle.std.proofs.Common.{arith, ap, length}
use Rattle.site_model.proofs.Nearest.{share_step, nearest_end}
use Rattle.site_model.proofs.Site.nearest.Goals as goal

pub loop-p-preserved : goal.loop-p-preserved
loop-p-preserved c =
    let s = c.args.self.now in
    let e = ap length c.points.ensures.value in
    record {
      bound = omega (arith, c.loop-p.invariant.bound, c.in_ok-total.ensures.small);
      rest = share_step s c.loop-p.p c.in_ok-total.field-0 c.loop-p.total (omega (arith, e, c.loop-p-test.true)) c.in_ok-total.ensures.share c.loop-p.invariant.rest;
    }

pub returns-clause-total : goal.returns-clause-total
returns-clause-total c =
    let s = c.args.self.now in
    let e = ap length c.points.ensures.value in
    nearest_end s c.loop-p.p c.loop-p.total (omega (arith, e, c.loop-p-test.false)) c.loop-p.invariant.rest
