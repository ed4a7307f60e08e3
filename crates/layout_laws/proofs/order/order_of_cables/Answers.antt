use Rattle.layout_laws.proofs.Alike.{SameEnds-from_outs, Keeps-ordered, IsLegal-ordered, cost-ordered, IsGrown-ordered}
use Rattle.layout_laws.proofs.Arcs.{IsSettled-ordered, IsBlocked-ordered}
use Rattle.layout_laws.proofs.order.order_of_cables.Goals as goal

pub returns-clause-ends : goal.returns-clause-ends
returns-clause-ends c = SameEnds-from_outs

pub returns-clause-rules : goal.returns-clause-rules
returns-clause-rules c = Keeps-ordered

pub returns-clause-legal : goal.returns-clause-legal
returns-clause-legal c = IsLegal-ordered

pub returns-clause-cost : goal.returns-clause-cost
returns-clause-cost c = cost-ordered

pub returns-clause-grown : goal.returns-clause-grown
returns-clause-grown c = IsGrown-ordered

pub returns-clause-settled : goal.returns-clause-settled
returns-clause-settled c = IsSettled-ordered

pub returns-clause-blocked : goal.returns-clause-blocked
returns-clause-blocked c = IsBlocked-ordered
