use Rattle.drill_site.proofs.Drawing.{AreFirst-gains}
use Rattle.drill_site.proofs.drill.add_turbines.Goals as goal

pub loop-number-preserved : goal.loop-number-preserved
loop-number-preserved c = record {
  takes = c.in_ok-add_turbine.ensures.takes;
  first = AreFirst-gains c.args.state c.loop-number.number c.loop-number.state c.add_turbine.new.state c.loop-number.builder c.add_turbine.new.builder c.loop-number.invariant.first c.in_ok-add_turbine.ensures.gains c.in_ok-add_turbine.ensures.state;
}
