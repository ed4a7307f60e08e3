use Rattle.layout_laws.proofs.Straightest.{straight-out, straight-ends, straight-load, straight-cable_load}
use Rattle.layout_laws.proofs.straight.loads_of_straight_layouts.Goals as goal

pub returns-clause-outs : goal.returns-clause-outs
returns-clause-outs c = straight-out

pub returns-clause-ends : goal.returns-clause-ends
returns-clause-ends c = straight-ends

pub returns-clause-points : goal.returns-clause-points
returns-clause-points c = straight-load

pub returns-clause-cables : goal.returns-clause-cables
returns-clause-cables c = straight-cable_load
