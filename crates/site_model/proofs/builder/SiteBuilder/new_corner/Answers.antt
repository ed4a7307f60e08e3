use Rattle.std.proofs.Common.{sym, ◌∙◌}
use Rattle.site_model.proofs.Corners.{IsFirstCode-corner}
use Rattle.site_model.proofs.builder.SiteBuilder.new_corner.Goals as goal

pub returns-in_default-clause-code : goal.returns-in_default-clause-code
returns-in_default-clause-code c =
    IsFirstCode-corner c.args.self.now c.args.x c.args.y (sym c.takes_corners.ensures ∙ c.if-not-takes_corners.false) c.ranges.x c.ranges.y c.in_default.ensures
