use Rattle.start_layout.proofs.Moving.{not_legal}
use Rattle.start_layout.proofs.settling.cost_of.Goals as goal

pub unreachable-requires : goal.unreachable-requires
unreachable-requires c = not_legal c.args.site.now c.args.layout.now c.in-Broken.rule c.in-Broken.a c.in-Broken.b c.in-Broken.ensures c.requires
