use Rattle.crossing_index.proofs.Passing.{no_clash_beside}
use Rattle.crossing_index.proofs.scan.is_clash.Goals as goal

pub returns-then-is_beside : goal.returns-then-is_beside
returns-then-is_beside c = (λ t. cc, λ k. absurd (no_clash_beside c.args.site.now c.args.arc c.args.other c.args.sides.now c.requires.sides (c.is_beside.ensures.0 c.if-is_beside.true) k))
