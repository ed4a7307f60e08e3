use Rattle.layout_laws.proofs.Flow.{power_of-le-load, power_of-le-own_load}
use Rattle.layout_laws.proofs.loads.least_loads.Goals as goal

pub returns-clause-passed : goal.returns-clause-passed
returns-clause-passed c = power_of-le-load

pub returns-clause-own : goal.returns-clause-own
returns-clause-own c = power_of-le-own_load
