use Rattle.layout_laws.proofs.Ending.{bend-fed, bend-carries}
use Rattle.layout_laws.proofs.loads.loads_of_bends.Goals as goal

pub returns-clause-fed : goal.returns-clause-fed
returns-clause-fed c = bend-fed

pub returns-clause-carries : goal.returns-clause-carries
returns-clause-carries c = bend-carries
