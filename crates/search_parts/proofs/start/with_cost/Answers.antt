use Rattle.layout_laws.proofs.Legal.{broken_not_legal}
use Rattle.search_parts.proofs.start.with_cost.Goals as goal

pub unreachable-requires : goal.unreachable-requires
unreachable-requires c = broken_not_legal c.args.site.now c.args.layout c.in-Broken.field-0 c.in-Broken.field-1 c.in-Broken.field-2 c.in-Broken.ensures c.requires.legal
