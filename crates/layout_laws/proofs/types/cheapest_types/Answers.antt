use Rattle.layout_laws.proofs.Typing.{some_cheap_typed}
use Rattle.layout_laws.proofs.Typed.{cheap_typed-same}
use Rattle.layout_laws.proofs.types.cheapest_types.Goals as goal

pub returns-clause-exists : goal.returns-clause-exists
returns-clause-exists c = some_cheap_typed

pub returns-clause-unique : goal.returns-clause-unique
returns-clause-unique c = cheap_typed-same
