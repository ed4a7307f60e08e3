use Rattle.drill_site.proofs.Drawing.{IsDrillSite-square, all_beside}
use Rattle.drill_site.proofs.drill.drill_site.Goals as goal

pub add_turbines-requires-clause-first : goal.add_turbines-requires-clause-first
add_turbines-requires-clause-first c = c.in_ok-add_substations.ensures.first c.args.k

pub add_bends-requires-clause-first : goal.add_bends-requires-clause-first
add_bends-requires-clause-first c = let first = c.in_ok-add_turbines.ensures.first in (c.args.turbines, first.0, c.requires.few, (c.args.k, first.1))

pub add_square-requires-clause-beside : goal.add_square-requires-clause-beside
add_square-requires-clause-beside c = let first = c.in_ok-add_turbines.ensures.first in all_beside c.args.k c.args.turbines first.0 c.add_turbines.new.builder.site.points c.add_bends.new.builder.site.points first.1 c.in_ok-add_bends.ensures.bends

pub returns : goal.returns
returns c =
    let first = c.in_ok-add_turbines.ensures.first in
    IsDrillSite-square c.args.k c.args.turbines first.0 c.add_turbines.new.builder.site.points c.add_bends.new.builder c.add_square.new.builder c.finish.result first.1 c.in_ok-add_bends.ensures.takes c.in_ok-add_bends.ensures.bends c.in_ok-add_square.ensures c.finish.ensures
