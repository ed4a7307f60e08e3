use Rattle.cable_definitions.specs.Walk.{most_steps}
use Rattle.layout_laws.proofs.Walking.{comes_to-from_end, end-from_comes_to, passes-start}
use Rattle.layout_laws.proofs.walks.points_passed.Goals as goal

pub returns-clause-reached : goal.returns-clause-reached
returns-clause-reached c = λ cables p t. comes_to-from_end cables p most_steps t

pub returns-clause-after_steps : goal.returns-clause-after_steps
returns-clause-after_steps c = λ cables p t. end-from_comes_to cables p most_steps t

pub returns-clause-own_start : goal.returns-clause-own_start
returns-clause-own_start c = passes-start
