use Rattle.search_laws.proofs.Stepping.{step-core, run-core, reached-core}
use Rattle.search_laws.proofs.steps.steps_keep_states.Goals as goal

pub returns-clause-step : goal.returns-clause-step
returns-clause-step c = step-core

pub returns-clause-run : goal.returns-clause-run
returns-clause-run c = run-core

pub returns-clause-reached : goal.returns-clause-reached
returns-clause-reached c = reached-core
