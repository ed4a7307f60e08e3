use Rattle.std.proofs.Common.{arith}
use Rattle.row_makers.proofs.Tables.{out_none, out_more}
use Rattle.row_makers.proofs.sums.sums_out.Goals as goal

pub loop-a-init : goal.loop-a-init
loop-a-init c = out_none c.args.arcs.now c.args.shares.now

pub loop-a-preserved : goal.loop-a-preserved
loop-a-preserved c =
    out_more c.args.arcs.now c.args.shares.now c.loop-a.sums c.loop-a.a c.get-from.result c.get.result _ c.loop-a.invariant c.get-from.ensures c.get.ensures.share c.get.ensures.most
    (c.requires.points c.loop-a.a c.get-from.result c.get-from.ensures).from (omega (arith, c.from.ensures))
