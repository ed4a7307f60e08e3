use Rattle.std.proofs.Common.{arith}
use Rattle.std.proofs.lemmas.Int.{ints}
use Rattle.row_lifts.proofs.Settling.{one_value}
use Rattle.dual_weights.proofs.improvement.improve.Goals as goal

pub returns-clause-value : goal.returns-clause-value
returns-clause-value c = λ before after x y.
    let worth = c.in_ok-weights.ensures.worth in
    let same = one_value c.args.site.now c.args.arcs.now c.args.pool.now c.args.decisions.now c.args.start.now before worth.before x worth.is_before in
    let more = worth.at_least in
    let up = c.lift_all.ensures.value worth.after after worth.is_after y in
    omega (arith, ints, same, more, up)
