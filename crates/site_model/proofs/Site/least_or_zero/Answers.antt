use Rattle.std.proofs.Common.{ap, subst, sym, ◌∙◌, arith}
use Rattle.cable_definitions.specs.Arcs.{kind_from}
use Rattle.site_model.specs.Best.{IsShare}
use Rattle.site_model.proofs.Candidates.{point_is}
use Rattle.site_model.proofs.Nearest.{turbine_share, turbine_none, share_nothing}
use Rattle.site_model.proofs.Site.least_or_zero.Goals as goal

pub returns-in-Turbine : goal.returns-in-Turbine
returns-in-Turbine c =
    let s = c.args.self.now in
    let kind = ap kind_from (point_is s c.points.result.now c.args.p c.index-points-p.result c.points.ensures.value c.requires c.index-points-p.is) ∙ c.in-Turbine.is in
    record {
      none = turbine_none s c.args.p c.in-Turbine.power c.least_out.result kind c.least_out.ensures.none;
      share = turbine_share s c.args.p c.in-Turbine.power c.least_out.result kind c.least_out.ensures.least;
      small = c.least_out.ensures.small;
    }

pub returns-in_default : goal.returns-in_default
returns-in_default c =
    let s = c.args.self.now in
    let kind = ap kind_from (point_is s c.points.result.now c.args.p c.index-points-p.result c.points.ensures.value c.requires c.index-points-p.is) in
    record {
      none = tt;
      share = subst (IsShare s c.args.p 0) (sym kind) (share_nothing s c.args.p c.index-points-p.result.kind c.in_default.not-Turbine);
      small = omega arith;
    }
