use Rattle.std.proofs.Common.{◌+◌, ◌*◌, arith, refl}
use Rattle.row_makers.proofs.Tables.{between_none, between_more, read_there}
use Rattle.row_makers.proofs.sums.sums_between.Goals as goal

pub loop-a-init : goal.loop-a-init
loop-a-init c = between_none c.args.arcs.now c.args.shares.now c.in_ok-sums.sums.items c.in_ok-sums.ensures.size c.in_ok-sums.ensures.zeros

pub loop-a-preserved : goal.loop-a-preserved
loop-a-preserved c =
    let joins = c.requires.points c.loop-a.a c.get-arc.result c.get-arc.ensures in
    let read = read_there c.loop-a.sums.items (256 * c.get-arc.result.from + c.get-arc.result.to) c.index_mut.result.now 0 (omega (arith, joins.from, joins.to, c.loop-a.invariant.size)) in
    between_more c.args.arcs.now c.args.shares.now c.loop-a.sums.items c.loop-a.a c.get-arc.result c.get.result _ _ c.loop-a.invariant c.get-arc.ensures c.get.ensures.share c.get.ensures.most
    joins refl (omega (arith, c.from.ensures, c.index_mut.ensures.value, read))
