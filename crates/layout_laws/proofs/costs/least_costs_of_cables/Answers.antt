use Rattle.layout_laws.proofs.Monotone.{cable-le_cheapest, cable-le_least}
use Rattle.layout_laws.proofs.costs.least_costs_of_cables.Goals as goal

pub returns-clause-cheapest : goal.returns-clause-cheapest
returns-clause-cheapest c = cable-le_cheapest

pub returns-clause-least_out : goal.returns-clause-least_out
returns-clause-least_out c = cable-le_least
