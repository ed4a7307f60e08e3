use Rattle.search_progress.proofs.OpenStart.{removed}
use Rattle.search_progress.proofs.progress.remove_node.Goals as goal

pub returns-clause-rest : goal.returns-clause-rest
returns-clause-rest c =
    removed c.args.nodes.now.items c.swap_remove.new.self.items c.as_slice.result.now c.place_of-place.result c.args.node c.swap_remove.result c.place_of-place.ensures c.as_slice.ensures.value c.swap_remove.ensures.value
    c.swap_remove.ensures.items
