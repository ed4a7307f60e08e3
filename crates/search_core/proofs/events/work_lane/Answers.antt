use Rattle.std.proofs.Common.{◌∙◌, sym}
use Rattle.search_core.proofs.events.work_lane.Goals as goal

pub returns-clause-floor : goal.returns-clause-floor
returns-clause-floor g c = λ from to n made e first h is. c.in_ok-work_node.ensures.floor (sym c.in_ok-work_node.ensures.node ∙ first) n made h is
