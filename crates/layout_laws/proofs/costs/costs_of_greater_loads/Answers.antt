use Rattle.layout_laws.proofs.Monotone.{cost_by-le, cost_of-le, Bears-lower}
use Rattle.layout_laws.proofs.costs.costs_of_greater_loads.Goals as goal

pub returns-clause-by_type : goal.returns-clause-by_type
returns-clause-by_type c = cost_by-le

pub returns-clause-of_type : goal.returns-clause-of_type
returns-clause-of_type c = cost_of-le

pub returns-clause-bears : goal.returns-clause-bears
returns-clause-bears c = Bears-lower
