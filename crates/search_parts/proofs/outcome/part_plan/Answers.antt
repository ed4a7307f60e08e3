use Rattle.search_parts.proofs.Closing.{part-plan, not-part}
use Rattle.search_parts.proofs.outcome.part_plan.Goals as goal

pub returns : goal.returns
returns c = part-plan c.args.start c.args.bound c.in-Part.part c.in-Part.turbine c.part_claim.result c.in-Part.is c.requires.not_negative c.requires.small c.part_claim.ensures

pub unreachable-requires : goal.unreachable-requires
unreachable-requires c = not-part c.args.start c.in-Known.field-0 c.in-Known.is c.requires.part
