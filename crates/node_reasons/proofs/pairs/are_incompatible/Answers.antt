use Rattle.node_reasons.proofs.UsedPairs.{incompatible_at}
use Rattle.node_reasons.proofs.pairs.are_incompatible.Goals as goal

pub returns : goal.returns
returns c =
    incompatible_at c.args.site.now c.args.arcs.now c.args.a c.args.b c.get-first.result c.get-second.result c.incompatible.result c.get-first.ensures c.get-second.ensures
    (c.incompatible.ensures c.get-first.result c.get-second.result c.get-first.ensures c.get-second.ensures)
