use Rattle.std.proofs.Common.{refl, ap, ◌∙◌, length}
use Rattle.std.proofs.lemmas.List.{length-replicate}
use Rattle.cable_definitions.specs.declared.row.Mark.TheVariants.{Free}
use Rattle.branch_tree.specs.State.{new_tree}
use Rattle.search_progress.proofs.OpenStart.{fresh-searching}
use Rattle.search_progress.proofs.progress.Progress.new.Goals as goal

pub returns-clause-searching : goal.returns-clause-searching
returns-clause-searching c =
    let count = c.len-count.ensures.count in
    fresh-searching c.args.site.now c.args.arcs.now c.args.budget c.args.lanes _ c.points-valid.ensures.valid c.requires.arcs c.requires.some_work c.requires.most_works c.requires.few_lanes refl c.ceiling.ensures
    (c.in_ok-new.ensures ∙ ap (new_tree c.args.budget) count) (ap length c.in_ok-new-2.ensures ∙ length-replicate c.len-count.result Free ∙ count) c.in_ok-first_open.ensures.nodes c.in_ok-first_open.ensures.room
    c.in_ok-empty_lanes.ensures c.list_first_rows.ensures.lists c.list_first_rows.ensures.listed refl

pub returns-clause-room : goal.returns-clause-room
returns-clause-room c = λ none. c.list_first_rows.ensures.few
