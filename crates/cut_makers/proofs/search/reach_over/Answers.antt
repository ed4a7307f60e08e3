use Rattle.std.proofs.Common.{arith, sym}
use Rattle.std.proofs.lemmas.Result.{on_ok_weaker}
use Rattle.std.proofs.lemmas.Bool.{iff_false}
use Rattle.cut_makers.proofs.Steps.{joined_over, used_up_after}
use Rattle.cut_makers.proofs.search.reach_over.Goals as goal

pub returns-clause-tree : goal.returns-clause-tree
returns-clause-tree c =
    on_ok_weaker c.add.result
    (λ e. joined_over _ c.args.arcs.now c.args.shares.now c.args.flow.now c.args.reached.now c.add.new.self c.far_end-point.result c.args.place c.args.a c.room_over-room.result c.min.result
    c.args.ahead c.get-over.result c.get.result c.requires.network c.requires.tree c.get-over.ensures c.get.ensures
    (c.requires.near c.get.result c.get-over.result c.get.ensures c.get-over.ensures, sym c.far_end-point.ensures) c.room_over-room.ensures
    (omega arith) (omega arith) (omega (arith, c.if-room-eq0.false, c.requires.tree.some_room c.args.place c.get-over.result c.get-over.ensures)) (iff_false c.has.ensures c.if-has.false) e)
    c.add.ensures

pub returns-clause-used_up : goal.returns-clause-used_up
returns-clause-used_up c =
    on_ok_weaker c.add.result (λ e. used_up_after c.args.ahead c.args.arcs.now c.args.shares.now c.args.flow.now c.args.reached.now c.add.new.self c.args.a c.get.result _ c.get.ensures c.far_end-point.ensures e) c.add.ensures
