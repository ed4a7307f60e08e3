use Rattle.layout_laws.proofs.Flow.{load-flow}
use Rattle.layout_laws.proofs.Ending.{load_into-substation}
use Rattle.layout_laws.proofs.loads.conservation.Goals as goal

pub returns-clause-points : goal.returns-clause-points
returns-clause-points c = load-flow

pub returns-clause-substations : goal.returns-clause-substations
returns-clause-substations c = load_into-substation
