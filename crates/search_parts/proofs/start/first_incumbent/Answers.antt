use Rattle.search_parts.proofs.Starting.{stuck_part, found-straight}
use Rattle.search_parts.proofs.start.first_incumbent.Goals as goal

pub settle_layout-requires-clause-legal : goal.settle_layout-requires-clause-legal
settle_layout-requires-clause-legal c = (c.in_ok-part.ensures.found c.in-Found.layout c.in-Found.field-1 c.in-Found.is).0

pub returns-in-Stuck-clause-begins : goal.returns-in-Stuck-clause-begins
returns-in-Stuck-clause-begins c =
    stuck_part c.args.site.now c.in-Stuck.part c.arrange.new.self c.in-Stuck.turbine (c.in_ok-part.ensures.stuck c.in-Stuck.part c.in-Stuck.turbine c.in-Stuck.is)
    c.arrange.ensures.starts_differ c.arrange.ensures.same_outs c.arrange.ensures.in_order

pub returns-in_ok-settled-in-Found-clause-straight : goal.returns-in_ok-settled-in-Found-clause-straight
returns-in_ok-settled-in-Found-clause-straight c =
    found-straight c.args.site.now _ c.in-Found.layout c.in-Found.field-1 c.in_ok-settled-in-Found.settled c.in-Found.is (c.in_ok-part.ensures.found c.in-Found.layout c.in-Found.field-1 c.in-Found.is).1
    c.in_ok-settled-in-Found.ensures c.in_ok-part.ensures.straight
