use Rattle.std.proofs.Common.{ℕ, List, Ok, refl, sym, ◌∙◌, subst, map}
use Rattle.std.specs.List.{concat}
use Rattle.cable_definitions.specs.Site.{IsValid}
use Rattle.cable_definitions.specs.Tree.{Item}
use Rattle.cable_definitions.specs.Text.{item_lines}
use Rattle.cable_definitions.specs.Core.{first_core}
use Rattle.search_laws.proofs.Starting.{first-core}
use Rattle.search_core.specs.State.{core}
use Rattle.search_parts.specs.Start.{layout_of}
use Rattle.search_core.specs.Advances.{Tells}
use Rattle.search_parts.specs.Ended.{HasEnded, IsConcluded}
use Rattle.search_core.proofs.Flooring.{floored-at}
use Rattle.search_core.proofs.Assembling.{IsWhole, IsStopped, told-first, failed-first, begins-at, begun-idle, begun-floored, idle-at, ends-at, whole, stopped-early, part-told, part-whole, finds}
use Rattle.search_core.proofs.searching.search_with.Given.{Over}
use Rattle.search_core.proofs.searching.search_with.Goals.{In_ok-write_rows, In_ok-work_all, After-from_residual-in_err-work_all}
use Rattle.search_core.proofs.searching.search_with.Goals as goal

-- the first rows are written
told : (g : Over) (c : In_ok-write_rows g)
    → Tells {A = Unit {0}} (Ok tt) (g.O.Sink.state c.args.out.now) (g.O.Sink.state c.write_rows.new.out)
    (concat (map item_lines (first_core c.args.site.now c.args.lanes).items))
told g c =
    let first = first_core c.args.site.now c.args.lanes in
    told-first c.args.site.now c.args.lanes c.pool.result.now c.args.search.now.progress.pool (core first.items c.args.search.now) c.pool.ensures refl c.requires.first c.in_ok-write_rows.ensures

-- the rounds stopped early
stopped : (g : Over) (c : After-from_residual-in_err-work_all g)
    → IsStopped c.from_residual-in_err-work_all.result c.args.site.now c.args.arcs.now c.args.search.now.progress.budget (g.O.Sink.state c.args.out.now) (g.O.Sink.state c.work_all.new.out)
stopped g c =
    let lanes = c.args.lanes in
    let first = first_core c.args.site.now lanes in
    let start = layout_of c.in_ok-start.start in
    let parts = c.begin.ensures.parts in
    let begins = begins-at c.args.search.now.progress.budget lanes (core first.items c.begin.new.search) start c.requires.site c.requires.arcs_of_site c.requires.first (c.in_ok-begin.ensures.begins first.items) in
    let written = told-first c.args.site.now lanes c.pool.result.now c.args.search.now.progress.pool (core first.items c.args.search.now) c.pool.ensures refl c.requires.first c.in_ok-write_rows.ensures in
    stopped-early lanes start (subst IsValid c.requires.site c.requires.running.searching.valid) c.requires.arcs begins written c.from_residual-in_err-work_all.ensures.0 c.from_residual-in_err-work_all.ensures.1
    (ends-at lanes (parts.site ∙ c.requires.site) (parts.arcs ∙ c.requires.arcs_of_site) parts.budget (c.in_err-work_all.ensures.advances first.items))

-- the rounds came to their end
all : (g : Over) (c : In_ok-work_all g)
    → IsWhole c.args.site.now c.args.arcs.now c.args.search.now.progress.budget c.args.lanes c.in_ok-start.start (core (first_core c.args.site.now c.args.lanes).items c.begin.new.search)
    (λ (items : List Item). core items c.work_all.new.search) (g.O.Sink.state c.args.out.now) (g.O.Sink.state c.work_all.new.out)
all g c =
    let s = c.args.site.now in
    let n = c.args.search.now.progress.budget in
    let lanes = c.args.lanes in
    let first = first_core s lanes in
    let start = c.in_ok-start.start in
    let begun = c.begin.new.search in
    let parts = c.begin.ensures.parts in
    let site = parts.site ∙ c.requires.site in
    let begins = begins-at n lanes (core first.items begun) (layout_of start) c.requires.site c.requires.arcs_of_site c.requires.first (c.in_ok-begin.ensures.begins first.items) in
    let written = told-first s lanes c.pool.result.now c.args.search.now.progress.pool (core first.items c.args.search.now) c.pool.ensures refl c.requires.first c.in_ok-write_rows.ensures in
    whole lanes start {now = λ items. core items c.work_all.new.search} (λ items. refl) (subst IsValid c.requires.site c.requires.running.searching.valid) c.requires.arcs c.requires.some c.in_ok-start.ensures.begins
    c.in_ok-start.ensures.straight begins written (ends-at lanes site (parts.arcs ∙ c.requires.arcs_of_site) parts.budget (c.in_ok-work_all.ensures.advances first.items))
    (λ items.
    floored-at begun.progress.tree.nodes c.work_all.new.search.progress.tree.nodes site c.in_ok-work_all.ensures.floored (begun-floored s c.args.arcs.now n lanes (layout_of start) (core first.items begun) begins))

pub returns-in_err-write_rows-clause-part : goal.returns-in_err-write_rows-clause-part
returns-in_err-write_rows-clause-part g c =
    let s = c.args.site.now in
    let old = c.args.search.now in
    let first = first_core s c.args.lanes in
    let valid = subst IsValid c.requires.site c.requires.running.searching.valid in
    part-told c.from_residual.result s c.args.arcs.now old.progress.budget first _ _ (first-core s c.args.arcs.now old.progress.budget c.args.lanes valid)
    (failed-first s c.args.lanes c.pool.result.now old.progress.pool (core first.items old) c.pool.ensures refl c.requires.first c.from_residual.ensures.0 c.in_err-write_rows.ensures)

pub returns-in_err-start-clause-part : goal.returns-in_err-start-clause-part
returns-in_err-start-clause-part g c =
    let s = c.args.site.now in
    let valid = subst IsValid c.requires.site c.requires.running.searching.valid in
    part-whole c.from_residual-in_err-start.result s c.args.arcs.now c.args.search.now.progress.budget (first_core s c.args.lanes) _ _
    (first-core s c.args.arcs.now c.args.search.now.progress.budget c.args.lanes valid) (told g (goal.at.returns-in_err-start-clause-part g c).In_ok-write_rows)

pub returns-in_err-begin-clause-part : goal.returns-in_err-begin-clause-part
returns-in_err-begin-clause-part g c =
    let s = c.args.site.now in
    let valid = subst IsValid c.requires.site c.requires.running.searching.valid in
    part-whole c.from_residual-in_err-begin.result s c.args.arcs.now c.args.search.now.progress.budget (first_core s c.args.lanes) _ _
    (first-core s c.args.arcs.now c.args.search.now.progress.budget c.args.lanes valid) (told g (goal.at.returns-in_err-begin-clause-part g c).In_ok-write_rows)

pub work_all-requires-clause-idle : goal.work_all-requires-clause-idle
work_all-requires-clause-idle g c =
    let s = c.args.site.now in
    let n = c.args.search.now.progress.budget in
    let first = first_core s c.args.lanes in
    let start = layout_of c.in_ok-start.start in
    let begun = core first.items c.begin.new.search in
    let parts = c.begin.ensures.parts in
    let valid = subst IsValid c.requires.site c.requires.running.searching.valid in
    let begins = begins-at n c.args.lanes begun start c.requires.site c.requires.arcs_of_site c.requires.first (c.in_ok-begin.ensures.begins first.items) in (
      first.items,
      idle-at (sym (parts.site ∙ c.requires.site)) (sym (parts.arcs ∙ c.requires.arcs_of_site)) (sym parts.budget) (begun-idle s c.args.arcs.now n c.args.lanes start begun valid c.requires.arcs begins),
    )

pub returns-in_err-work_all-clause-part : goal.returns-in_err-work_all-clause-part
returns-in_err-work_all-clause-part g c = (stopped g (goal.at.returns-in_err-work_all-clause-part g c).After-from_residual-in_err-work_all).part

pub returns-in_err-work_all-clause-failed : goal.returns-in_err-work_all-clause-failed
returns-in_err-work_all-clause-failed g c = (stopped g (goal.at.returns-in_err-work_all-clause-failed g c).After-from_residual-in_err-work_all).failed

pub returns-in_err-work_all-clause-count : goal.returns-in_err-work_all-clause-count
returns-in_err-work_all-clause-count g c = (stopped g (goal.at.returns-in_err-work_all-clause-count g c).After-from_residual-in_err-work_all).count

pub conclude-requires-clause-ended : goal.conclude-requires-clause-ended
conclude-requires-clause-ended g c =
    let ended = all g (goal.at.conclude-requires-clause-ended g c).In_ok-work_all in
    let same = c.work_all.ensures.parts.budget ∙ c.begin.ensures.parts.budget in
    (ended.items, subst (λ (m : ℕ). HasEnded c.args.site.now c.args.arcs.now m c.in_ok-start.start (core ended.items c.work_all.new.search)) (sym same) ended.has_ended)

pub returns-in_err-conclude-clause-part : goal.returns-in_err-conclude-clause-part
returns-in_err-conclude-clause-part g c =
    let ended = all g (goal.at.returns-in_err-conclude-clause-part g c).In_ok-work_all in
    part-whole c.from_residual-in_err-conclude.result c.args.site.now c.args.arcs.now c.args.search.now.progress.budget (core ended.items c.work_all.new.search) _ _ ended.has_ended.is_core ended.told

pub returns-in_err-conclude-clause-count : goal.returns-in_err-conclude-clause-count
returns-in_err-conclude-clause-count g c = (all g (goal.at.returns-in_err-conclude-clause-count g c).In_ok-work_all).told.count

pub returns-clause-plan : goal.returns-clause-plan
returns-clause-plan g c =
    let s = c.args.site.now in
    let arcs = c.args.arcs.now in
    let n = c.args.search.now.progress.budget in
    let lanes = c.args.lanes in
    let first = first_core s lanes in
    let start = c.in_ok-start.start in
    let begun = core first.items c.begin.new.search in
    let now = c.work_all.new.search in
    let ended = all g (goal.at.returns-clause-plan g c).In_ok-work_all in
    let begins = begins-at n lanes begun (layout_of start) c.requires.site c.requires.arcs_of_site c.requires.first (c.in_ok-begin.ensures.begins first.items) in
    let same = c.work_all.ensures.parts.budget ∙ c.begin.ensures.parts.budget in
    let concluded = c.in_ok-conclude.ensures ended.items (subst (λ (m : ℕ). HasEnded s arcs m start (core ended.items now)) (sym same) ended.has_ended) in
    let valid = subst IsValid c.requires.site c.requires.running.searching.valid in
    finds s arcs n lanes ended.rounds (layout_of start) begun (core ended.items now) concluded.0 _ _ _ _ valid c.requires.arcs begins ended.lead
    (subst (λ (m : ℕ). IsConcluded s arcs m (core ended.items now) concluded.0 c.in_ok-conclude.field-0.layout c.in_ok-conclude.field-0.claim) same concluded.1) ended.told.whole

pub returns-clause-count : goal.returns-clause-count
returns-clause-count g c = (all g (goal.at.returns-clause-count g c).In_ok-work_all).told.count
