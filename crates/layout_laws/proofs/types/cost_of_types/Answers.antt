use Rattle.layout_laws.proofs.Typed.{cost-cheap, cost-legal}
use Rattle.layout_laws.proofs.types.cost_of_types.Goals as goal

pub returns-clause-borne : goal.returns-clause-borne
returns-clause-borne c = cost-cheap

pub returns-clause-legal : goal.returns-clause-legal
returns-clause-legal c = cost-legal
