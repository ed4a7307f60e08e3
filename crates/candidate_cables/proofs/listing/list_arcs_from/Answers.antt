use Rattle.std.proofs.Common.{arith}
use Rattle.candidate_cables.proofs.Candidates.{start_done, at_end}
use Rattle.candidate_cables.proofs.listing.list_arcs_from.Goals as goal

pub returns : goal.returns
returns c =
    let s = c.args.site.now in
    let e = at_end s c.points.result.now c.loop-to.to c.points.ensures.value c.loop-to-test.false c.loop-to.auto.to-end in
    start_done s c.args.from c.loop-to.to c.loop-to.arcs.items c.loop-to.invariant e (omega (arith, e, c.points.ensures.valid.points_count)) (omega (arith, e, c.requires.from))
