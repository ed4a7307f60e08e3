use Rattle.std.proofs.Common.{arith, ap, length}
use Rattle.site_model.proofs.Nearest.{ends_none, ends_some, ends_small}
use Rattle.site_model.proofs.Site.least_out.Goals as goal

pub returns : goal.returns
returns c =
    let s = c.args.self.now in
    let e = ap length c.points.ensures.value in
    record {
      none = ends_none s c.args.p c.loop-q.q c.loop-q.least (omega (arith, e, c.loop-q-test.false)) c.loop-q.invariant;
      least = ends_some s c.args.p c.loop-q.q c.loop-q.least (omega (arith, e, c.loop-q-test.false)) c.loop-q.invariant;
      small = ends_small s c.args.p c.loop-q.q c.loop-q.least c.points.ensures.valid (omega (arith, e, c.loop-q-test.false)) c.loop-q.invariant;
    }
