use Rattle.candidate_cables.proofs.Candidates.{all_listed, at_end}
use Rattle.candidate_cables.proofs.listing.all_arcs.Goals as goal

pub returns-clause-arcs : goal.returns-clause-arcs
returns-clause-arcs c =
    let s = c.args.site.now in
    all_listed s c.loop-from.from c.loop-from.arcs.items c.loop-from.invariant (at_end s c.points.result.now c.loop-from.from c.points.ensures.value c.loop-from-test.false c.loop-from.auto.from-end)
