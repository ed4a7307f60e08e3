use Rattle.std.proofs.Common.{true, false, sym, ◌∙◌}
use Rattle.std.proofs.lemmas.List.{append-nil}
use Rattle.search_progress.proofs.RowsListed.{rows-here, kind-read, point-formed, lists-tried, few-tried, room-tried}
use Rattle.search_progress.proofs.rows.list_row.Goals as goal

pub returns-then-not-speaks_of-clause-row : goal.returns-then-not-speaks_of-clause-row
returns-then-not-speaks_of-clause-row c = λ few.
    rows-here c.args.site.now c.args.kind c.args.point false
    (kind-read c.args.site.now c.args.kind c.args.point c.points.result.now c.index-points-point.result false c.points.ensures.value c.requires.point (sym c.speaks_of.ensures ∙ c.if-not-speaks_of.true))
    c.args.pool.now c.args.pool.now (sym (append-nil c.args.pool.now))

pub add-requires-clause-well_formed : goal.add-requires-clause-well_formed
add-requires-clause-well_formed c =
    point-formed c.args.site.now c.args.arcs.now c.args.kind c.args.point c.requires.single c.requires.point
    (kind-read c.args.site.now c.args.kind c.args.point c.points.result.now c.index-points-point.result true c.points.ensures.value c.requires.point (sym c.speaks_of.ensures ∙ c.if-not-speaks_of.false))

pub returns-clause-lists : goal.returns-clause-lists
returns-clause-lists c =
    lists-tried c.args.site.now c.args.arcs.now c.args.pool.now c.add.new.self c.args.kind c.args.point c.add.result
    (point-formed c.args.site.now c.args.arcs.now c.args.kind c.args.point c.requires.single c.requires.point
    (kind-read c.args.site.now c.args.kind c.args.point c.points.result.now c.index-points-point.result true c.points.ensures.value c.requires.point (sym c.speaks_of.ensures ∙ c.if-not-speaks_of.false)))
    c.add.ensures.room.0 c.add.ensures.listed c.add.ensures.full

pub returns-clause-few : goal.returns-clause-few
returns-clause-few c = few-tried c.args.pool.now c.add.new.self c.args.kind c.args.point c.add.result c.add.ensures.listed c.add.ensures.full

pub returns-clause-row : goal.returns-clause-row
returns-clause-row c = λ few.
    rows-here c.args.site.now c.args.kind c.args.point true
    (kind-read c.args.site.now c.args.kind c.args.point c.points.result.now c.index-points-point.result true c.points.ensures.value c.requires.point (sym c.speaks_of.ensures ∙ c.if-not-speaks_of.false))
    c.args.pool.now c.add.new.self (room-tried c.args.pool.now c.add.new.self c.args.kind c.args.point c.add.result c.add.ensures.room.1 c.add.ensures.listed few)
