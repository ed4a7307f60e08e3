use Rattle.layout_laws.proofs.Alike.{starts_in-same, ends_in-same, load_into-same, Keeps-same, IsLegal-typed}
use Rattle.layout_laws.proofs.order.rules_without_types.Goals as goal

pub returns-clause-starts_in : goal.returns-clause-starts_in
returns-clause-starts_in c = starts_in-same

pub returns-clause-ends_in : goal.returns-clause-ends_in
returns-clause-ends_in c = ends_in-same

pub returns-clause-load_into : goal.returns-clause-load_into
returns-clause-load_into c = load_into-same

pub returns-clause-rules : goal.returns-clause-rules
returns-clause-rules c = Keeps-same

pub returns-clause-legal : goal.returns-clause-legal
returns-clause-legal c = IsLegal-typed
