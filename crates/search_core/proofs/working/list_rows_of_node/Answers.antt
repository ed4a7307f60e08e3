use Rattle.std.proofs.Common.{arith}
use Rattle.search_progress.proofs.RowsListed.{lists-then}
use Rattle.search_core.proofs.Listing.{lists-sets, room-few}
use Rattle.search_core.proofs.working.list_rows_of_node.Goals as goal

pub list_floor_rows-requires-clause-room : goal.list_floor_rows-requires-clause-room
list_floor_rows-requires-clause-room c =
    let first = c.if-node-ne1.false in
    room-few c.list_load_rows.new.pool 1280 (omega arith) (c.list_load_rows.ensures.few 768 (c.requires.room (omega (arith, first))))

pub returns-in_err-floor-clause-lists : goal.returns-in_err-floor-clause-lists
returns-in_err-floor-clause-lists c =
    let first = c.if-node-ne1.false in
    let room = room-few c.list_load_rows.new.pool 1280 (omega arith) (c.list_load_rows.ensures.few 768 (c.requires.room (omega (arith, first)))) in
    lists-then c.args.site.now c.args.arcs.now c.args.pool.now c.list_load_rows.new.pool c.list_floor_rows.new.pool c.list_load_rows.ensures.lists
    (lists-sets c.args.site.now c.args.arcs.now c.list_load_rows.new.pool c.list_floor_rows.new.pool room c.list_floor_rows.ensures.lists)

pub returns-clause-lists : goal.returns-clause-lists
returns-clause-lists c =
    let first = c.if-node-ne1.false in
    let room = room-few c.list_load_rows.new.pool 1280 (omega arith) (c.list_load_rows.ensures.few 768 (c.requires.room (omega (arith, first)))) in
    lists-then c.args.site.now c.args.arcs.now c.args.pool.now c.list_load_rows.new.pool c.list_floor_rows.new.pool c.list_load_rows.ensures.lists
    (lists-sets c.args.site.now c.args.arcs.now c.list_load_rows.new.pool c.list_floor_rows.new.pool room c.list_floor_rows.ensures.lists)
