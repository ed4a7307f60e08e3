use Rattle.search_laws.proofs.Falling.{step-falls, run-falls}
use Rattle.search_laws.proofs.steps.known_costs_fall.Goals as goal

pub returns-clause-step : goal.returns-clause-step
returns-clause-step c = step-falls

pub returns-clause-run : goal.returns-clause-run
returns-clause-run c = run-falls
