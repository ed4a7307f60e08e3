use Rattle.site_model.proofs.Candidates.{point_is}
use Rattle.site_model.proofs.Measuring.{between_is}
use Rattle.site_model.proofs.Site.arc_between.Goals as goal

pub returns-clause-measured : goal.returns-clause-measured
returns-clause-measured c =
    let s = c.args.self.now in
    let from = point_is s c.points.result.now c.args.from c.index-points-from.result c.points.ensures.value c.requires.from c.index-points-from.is in
    let to = point_is s c.points-2.result.now c.args.to c.index-points-to.result c.points-2.ensures.value c.requires.to c.index-points-to.is in
    record {
      from = c.requires.from;
      to = c.requires.to;
      metres = between_is s c.args.from c.args.to c.length.result c.index-points-from.result c.index-points-to.result from to c.length.ensures;
      charged = c.pair_charge.ensures;
    }
