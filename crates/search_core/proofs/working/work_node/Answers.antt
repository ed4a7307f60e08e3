use Rattle.std.proofs.Common.{ℕ, ◌∙◌, refl, sym, ap, subst}
use Rattle.std.specs.Prelude.{nat_abs}
use Rattle.cable_definitions.specs.InTree.{HasNoBends}
use Rattle.search_progress.specs.Chosen.{IsNodeBound}
use Rattle.search_progress.specs.declared.progress.Progress.{Progress}
use Rattle.search_progress.proofs.RowsListed.{lists-then}
use Rattle.search_core.proofs.Listing.{lists-nothing, lists-points, lists-well_formed, lists-length}
use Rattle.search_core.proofs.RaisedCalls.{called-from}
use Rattle.intree_floor.proofs.Holding.{legal-in_tree}
use Rattle.search_core.proofs.RaisedChoice.{passed-bound}
use Rattle.search_core.proofs.FirstWork.{room-first, room-worked}
use Rattle.search_core.proofs.Stepping.{count-marks, all-well_formed, searching-listed, is-works}
use Rattle.search_core.proofs.SteppingFloor.{IsFloorListed, floored-work}
use Rattle.search_core.proofs.working.work_node.Goals as goal

pub list_rows_of_node-requires-clause-room : goal.list_rows_of_node-requires-clause-room
list_rows_of_node-requires-clause-room g c =
    room-first c.args.site.now c.args.arcs.now c.requires.searching.0 c.args.progress.now c.args.lane c.args.node c.requires.searching.1 c.requires.held c.requires.room

pub returns-in_err-list_rows_of_node-clause-searching : goal.returns-in_err-list_rows_of_node-clause-searching
returns-in_err-list_rows_of_node-clause-searching g c = λ n h. searching-listed c.args.site.now c.args.arcs.now n c.args.progress.now _ refl h.marks_count c.list_rows_of_node.ensures.lists h

pub choose-requires-clause-marks_count : goal.choose-requires-clause-marks_count
choose-requires-clause-marks_count g c =
    count-marks c.args.site.now c.args.arcs.now c.requires.searching.0 c.args.progress.now c.args.node c.decisions.new.into c.requires.searching.1 c.decisions.ensures

pub choose-requires-clause-rows : goal.choose-requires-clause-rows
choose-requires-clause-rows g c =
    lists-points c.args.site.now c.args.arcs.now c.args.progress.now.pool c.list_rows_of_node.new.pool c.list_rows_of_node.ensures.lists c.requires.searching.1.rows

pub choose-requires-clause-well_formed : goal.choose-requires-clause-well_formed
choose-requires-clause-well_formed g c =
    lists-well_formed c.args.site.now c.args.arcs.now c.args.progress.now.pool c.list_rows_of_node.new.pool c.list_rows_of_node.ensures.lists
    (all-well_formed c.args.site.now c.args.arcs.now c.requires.searching.0 c.args.progress.now c.requires.searching.1)

pub returns-in_err-choice-clause-lists : goal.returns-in_err-choice-clause-lists
returns-in_err-choice-clause-lists g c =
    lists-then c.args.site.now c.args.arcs.now c.args.progress.now.pool c.list_rows_of_node.new.pool c.choose.new.pool c.list_rows_of_node.ensures.lists c.choose.ensures.lists

pub returns-in_err-choice-clause-searching : goal.returns-in_err-choice-clause-searching
returns-in_err-choice-clause-searching g c = λ n h.
    searching-listed c.args.site.now c.args.arcs.now n c.args.progress.now _ refl
    (count-marks c.args.site.now c.args.arcs.now n c.args.progress.now c.args.node c.decisions.new.into h c.decisions.ensures)
    (lists-then c.args.site.now c.args.arcs.now c.args.progress.now.pool c.list_rows_of_node.new.pool c.choose.new.pool c.list_rows_of_node.ensures.lists c.choose.ensures.lists) h

pub act-requires-clause-searching : goal.act-requires-clause-searching
act-requires-clause-searching g c =
    let h = c.requires.searching.1 in (
      c.requires.searching.0,
      searching-listed c.args.site.now c.args.arcs.now c.requires.searching.0 c.args.progress.now _ refl
          (count-marks c.args.site.now c.args.arcs.now c.requires.searching.0 c.args.progress.now c.args.node c.decisions.new.into h c.decisions.ensures)
          (lists-then c.args.site.now c.args.arcs.now c.args.progress.now.pool c.list_rows_of_node.new.pool c.choose.new.pool c.list_rows_of_node.ensures.lists c.choose.ensures.lists) h,
    )

pub act-requires-clause-bound : goal.act-requires-clause-bound
act-requires-clause-bound g c =
    let chosen = c.in_ok-choice.ensures.chosen in
    let parent = c.bound-parent.ensures in (
      chosen.0,
      λ made is.
          subst (λ (b : ℕ). IsNodeBound c.args.site.now c.args.arcs.now c.choose.new.pool c.decisions.new.into c.choose.new.weights b chosen.0)
          (ap nat_abs (passed-bound c.bound-parent.result parent.not_negative parent.small ∙ parent.bound made is)) chosen.1,
      chosen.2,
    )

pub returns-clause-lists : goal.returns-clause-lists
returns-clause-lists g c =
    lists-then c.args.site.now c.args.arcs.now c.args.progress.now.pool c.choose.new.pool c.act.new.self.pool
    (lists-then c.args.site.now c.args.arcs.now c.args.progress.now.pool c.list_rows_of_node.new.pool c.choose.new.pool c.list_rows_of_node.ensures.lists c.choose.ensures.lists)
    (lists-nothing c.args.site.now c.args.arcs.now c.choose.new.pool c.act.new.self.pool c.act.ensures.pool)

pub returns-clause-works : goal.returns-clause-works
returns-clause-works g c = λ n items h.
    let lists = lists-then c.args.site.now c.args.arcs.now c.args.progress.now.pool c.list_rows_of_node.new.pool c.choose.new.pool c.list_rows_of_node.ensures.lists c.choose.ensures.lists in
    let marks_count = count-marks c.args.site.now c.args.arcs.now n c.args.progress.now c.args.node c.decisions.new.into h c.decisions.ensures in
    let chosen = c.in_ok-choice.ensures.chosen in
    is-works c.args.site.now c.args.arcs.now n items c.args.progress.now c.act.new.self c.choose.new.pool c.decisions.new.into c.choose.new.weights c.args.lane c.args.node chosen.0
    (nat_abs c.in_ok-choice.choice.bound) c.in_ok-choice.choice.act h.known lists c.requires.held (c.decisions.ensures c.args.arcs.now (sym h.arcs_count)) chosen.2
    (c.act.ensures.worked n (searching-listed c.args.site.now c.args.arcs.now n c.args.progress.now _ refl marks_count lists h)) c.act.ensures.bound c.act.ensures.known c.act.ensures.lanes
    c.act.ensures.pool c.act.ensures.weights c.act.ensures.node c.act.ensures.act

pub returns-clause-searching : goal.returns-clause-searching
returns-clause-searching g c = λ n h.
    let lists = lists-then c.args.site.now c.args.arcs.now c.args.progress.now.pool c.list_rows_of_node.new.pool c.choose.new.pool c.list_rows_of_node.ensures.lists c.choose.ensures.lists in
    let marks_count = count-marks c.args.site.now c.args.arcs.now n c.args.progress.now c.args.node c.decisions.new.into h c.decisions.ensures in
    c.act.ensures.searching n (searching-listed c.args.site.now c.args.arcs.now n c.args.progress.now _ refl marks_count lists h)

pub returns-clause-room : goal.returns-clause-room
returns-clause-room g c =
    let n = c.requires.searching.0 in
    let h = c.requires.searching.1 in
    let lists = lists-then c.args.site.now c.args.arcs.now c.args.progress.now.pool c.list_rows_of_node.new.pool c.choose.new.pool c.list_rows_of_node.ensures.lists c.choose.ensures.lists in
    let marks_count = count-marks c.args.site.now c.args.arcs.now n c.args.progress.now c.args.node c.decisions.new.into h c.decisions.ensures in
    room-worked c.args.site.now c.args.arcs.now n _ c.args.node _ _ c.act.new.self (c.act.ensures.worked n (searching-listed c.args.site.now c.args.arcs.now n c.args.progress.now _ refl marks_count lists h))

pub returns-clause-called : goal.returns-clause-called
returns-clause-called g c = λ a e.
    called-from c.args.maker.now c.choose.new.maker c.args.progress.now.pool c.list_rows_of_node.new.pool c.choose.new.pool c.act.new.self.pool
    (lists-length c.args.site.now c.args.arcs.now c.args.progress.now.pool c.list_rows_of_node.new.pool c.list_rows_of_node.ensures.lists) c.act.ensures.pool
    (c.in_ok-choice.ensures.called a (sym c.act.ensures.act ∙ e))

pub returns-clause-floor : goal.returns-clause-floor
returns-clause-floor g c = λ first n made h is.
    let lists = lists-then c.args.site.now c.args.arcs.now c.args.progress.now.pool c.list_rows_of_node.new.pool c.choose.new.pool c.list_rows_of_node.ensures.lists c.choose.ensures.lists in
    let marks_count = count-marks c.args.site.now c.args.arcs.now n c.args.progress.now c.args.node c.decisions.new.into h c.decisions.ensures in
    let chosen = c.in_ok-choice.ensures.chosen in
    let m : Progress = record c.args.progress.now { pool = c.choose.new.pool; decisions = c.decisions.new.into; work = record { node = c.args.progress.now.work.node; weights = c.choose.new.weights; act = c.args.progress.now.work.act }; last = c.choose.new.last } in
    let searching = searching-listed c.args.site.now c.args.arcs.now n c.args.progress.now m refl marks_count lists h in
    let listed : HasNoBends c.args.site.now → IsFloorListed c.args.site.now c.args.arcs.now c.list_rows_of_node.new.pool c.choose.new.pool c.list_rows_of_node.new.last = λ no_bends. record {
      lawful = c.in_ok-list_rows_of_node.ensures.lawful first no_bends;
      reaches = c.in_ok-list_rows_of_node.ensures.floor first no_bends;
      more = c.choose.ensures.lists.rows;
      behind = c.choose.ensures.lists.behind;
      holds = λ cables legal. legal-in_tree c.args.site.now cables no_bends legal;
    } in
    floored-work c.args.site.now c.args.arcs.now n m c.act.new.self c.args.node c.list_rows_of_node.new.pool c.list_rows_of_node.new.last c.choose.new.weights chosen.0
    (nat_abs c.in_ok-choice.choice.bound) _ c.in_ok-choice.choice.act made first searching (c.decisions.ensures c.args.arcs.now (sym h.arcs_count)) chosen.1 chosen.2 c.in_ok-choice.ensures.floor
    c.in_ok-choice.ensures.last listed (c.act.ensures.worked n searching) c.act.ensures.bound is
