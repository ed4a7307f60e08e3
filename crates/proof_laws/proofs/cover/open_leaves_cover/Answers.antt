use Rattle.std.proofs.Common.{suc}
use Rattle.proof_laws.proofs.Sound.{sound-accepted}
use Rattle.proof_laws.proofs.cover.open_leaves_cover.Goals as goal

pub returns : goal.returns
returns c = λ s arcs n items kept valid are accepted cables legal.
    let leaf = (sound-accepted s arcs n items kept valid are accepted).nodes.cover cables legal in
    (suc leaf.place, leaf.node, leaf.made, leaf.open_leaf, leaf.in_box)
