use Rattle.layout_laws.proofs.Typing.{some_cheapest, IsCheapest-same, cheapest-le, borne-le_largest, some_bears}
use Rattle.layout_laws.proofs.types.cheapest_type.Goals as goal

pub returns-clause-exists : goal.returns-clause-exists
returns-clause-exists c = some_cheapest

pub returns-clause-unique : goal.returns-clause-unique
returns-clause-unique c = IsCheapest-same

pub returns-clause-cheapest : goal.returns-clause-cheapest
returns-clause-cheapest c = cheapest-le

pub returns-clause-borne : goal.returns-clause-borne
returns-clause-borne c = borne-le_largest

pub returns-clause-bears : goal.returns-clause-bears
returns-clause-bears c = some_bears
