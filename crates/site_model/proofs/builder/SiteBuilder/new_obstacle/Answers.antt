use Rattle.std.proofs.Common.{sym, ◌∙◌}
use Rattle.site_model.proofs.Corners.{IsFirstCode-count}
use Rattle.site_model.proofs.builder.SiteBuilder.new_obstacle.Goals as goal

pub returns-in_default-clause-code : goal.returns-in_default-clause-code
returns-in_default-clause-code c =
    IsFirstCode-count c.args.self.now c.args.corners (sym c.takes_obstacles.ensures ∙ c.if-not-takes_obstacles.false) c.ranges.corners c.in_default.ensures
