use Rattle.layout_laws.proofs.Monotone.{cheapest-monotone, least_out-le}
use Rattle.layout_laws.proofs.costs.least_costs_of_greater_loads.Goals as goal

pub returns-clause-cheapest : goal.returns-clause-cheapest
returns-clause-cheapest c = cheapest-monotone

pub returns-clause-least_out : goal.returns-clause-least_out
returns-clause-least_out c = least_out-le
