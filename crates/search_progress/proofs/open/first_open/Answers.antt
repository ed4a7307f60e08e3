use Rattle.std.proofs.Common.{ℕ, subst, arith}
use Rattle.search_progress.specs.Open.{IsFirstBelow}
use Rattle.search_progress.proofs.open.first_open.Goals as goal

pub returns : goal.returns
returns c =
    let most = c.loop-node.auto.node-index-end in
    let past = c.loop-node-test.false in
    subst (λ (n : ℕ). IsFirstBelow c.args.tree.now.nodes c.args.lanes.now c.args.numbers.now n c.loop-node.first) (omega (arith, most, past)) c.loop-node.invariant
