use Rattle.layout_laws.proofs.Legal.{broken_not_legal}
use Rattle.plain_planner.proofs.judged.Goals as goal

pub returns-in-Broken : goal.returns-in-Broken
returns-in-Broken c = broken_not_legal c.args.site.now c.args.cables.now c.in-Broken.field-0 _ _ c.in-Broken.ensures
