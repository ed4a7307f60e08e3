use Rattle.layout_laws.proofs.Alike.{IsLegal-ordered}
use Rattle.search_parts.proofs.Starting.{arranged-starts, settled_best}
use Rattle.search_parts.proofs.start.settle_layout.Goals as goal

pub with_cost-requires-clause-legal : goal.with_cost-requires-clause-legal
with_cost-requires-clause-legal c =
    let legal = c.in_ok-better.ensures.settled.legal in
    IsLegal-ordered c.args.site.now c.in_ok-better.better c.arrange.new.self (c.arrange.ensures.starts_differ legal.start) (c.arrange.ensures.same_outs legal.start) legal

pub with_cost-requires-clause-in_order : goal.with_cost-requires-clause-in_order
with_cost-requires-clause-in_order c =
    arranged-starts c.arrange.new.self (c.arrange.ensures.starts_differ c.in_ok-better.ensures.settled.legal.start) c.arrange.ensures.in_order

pub returns : goal.returns
returns c =
    settled_best c.args.site.now c.args.layout.now c.in_ok-better.better c.arrange.new.self c.with_cost.result.layout c.with_cost.result.cost
    c.in_ok-better.ensures.settled c.in_ok-better.ensures.same c.in_ok-better.ensures.less c.arrange.ensures.starts_differ c.arrange.ensures.same_outs
    c.with_cost.ensures.same c.with_cost.ensures.best
