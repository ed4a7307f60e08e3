use Rattle.layout_laws.proofs.Nearest.{starts_in-turbine, HasNone-no_arc}
use Rattle.layout_laws.proofs.straight.cables_out_of_turbines.Goals as goal

pub returns-clause-one : goal.returns-clause-one
returns-clause-one c = starts_in-turbine

pub returns-clause-none : goal.returns-clause-none
returns-clause-none c = HasNone-no_arc
