use Rattle.layout_laws.proofs.Sets.{loads_into-substations}
use Rattle.layout_laws.proofs.loads.loads_into_substations.Goals as goal

pub returns : goal.returns
returns c = loads_into-substations
