-- A lane works its node.
use Rattle.std.proofs.Common.{◌≡◌, ◌≢◌, ℕ, ◌+◌, ◌≤◌, inl, inr, List, [], ◌∷◌, ◌++◌, length, slice_get, Some, None, Option, refl, sym, ◌∙◌, ap, subst, arith}
use Rattle.std.specs.Prelude.{slice_set, count_by}
use Rattle.cable_definitions.specs.declared.cable.Arc.{Arc}
use Rattle.cable_definitions.specs.declared.row.Mark.{Mark}
use Rattle.cable_definitions.specs.Site.{Site, IsValid}
use Rattle.cable_definitions.specs.Arcs.{AreArcs}
use Rattle.cable_definitions.specs.Tree.{Node, WorkItem, empty_state, node_of, marks_of, IsWorked}
use Rattle.cable_definitions.specs.Core.{Core, Works, are_row_items, is_holding}
use Rattle.proof_laws.specs.Decided.{HasPointRows}
use Rattle.proof_laws.proofs.Boxes.{set_either}
use Rattle.search_laws.specs.Cores.{AreHeldUnworked, AreHeldApart, AreBeaten, AreCapped, IsCore}
use Rattle.search_laws.proofs.Lanes.{holding-set}
use Rattle.search_laws.proofs.Leading.{AreListed, leads-then, rows-listed, point_rows-still}
use Rattle.search_laws.proofs.Acting.{other-acted}
use Rattle.search_laws.proofs.Beating.{beaten-after, legal-after}
use Rattle.search_laws.proofs.Capping.{capped-after}
use Rattle.search_laws.proofs.Isolated.{alone-after}

-- a lane that is emptied holds nothing, and the others what they held
emptied : (lanes : List (Option ℕ)) (lane v j u : ℕ) → slice_get lanes lane ≡ Some (Some v) → slice_get (slice_set lanes lane None) j ≡ Some (Some u) → (j ≢ lane) × (slice_get lanes j ≡ Some (Some u))
emptied lanes lane v j u held e = elim (set_either lanes lane None (Some v) held j (Some u) e) [ inl r ↦ absurd (let f = r.1 in cc) | inr r ↦ r ]

-- the held nodes besides the one that is worked stay unworked
work-unworked : (old new : List Node) (lanes : List (Option ℕ)) (lane v : ℕ) → slice_get lanes lane ≡ Some (Some v) → ((u : ℕ) (x : Node) → u ≢ v → node_of old u ≡ Some x → node_of new u ≡ Some x)
    → AreHeldApart lanes → AreHeldUnworked old lanes → AreHeldUnworked new (slice_set lanes lane None)
work-unworked old new lanes lane v held stays apart unworked j u e =
    let at = emptied lanes lane v j u held e in
    let is = unworked j u at.1 in
    (is.0, stays u is.0 (λ same. at.0 (apart j lane v (subst (λ (x : ℕ). slice_get lanes j ≡ Some (Some x)) same at.1) held)) is.1, is.2)

-- and apart
work-apart : (lanes : List (Option ℕ)) (lane v : ℕ) → slice_get lanes lane ≡ Some (Some v) → AreHeldApart lanes → AreHeldApart (slice_set lanes lane None)
work-apart lanes lane v held apart i j u e f = apart i j u (emptied lanes lane v i u held e).1 (emptied lanes lane v j u held f).1

-- the state after a work
pub work-core : (s : Site) (arcs : List Arc) (n : ℕ) (old : Core) (lane : ℕ) (new : Core) → IsValid s → AreArcs s arcs → IsCore s arcs n old → Works s arcs n old lane new → IsCore s arcs n new
work-core s arcs n old lane new valid are core works = subst (IsCore s arcs n) (sym works.after) (record {
  accepted = leads-then s arcs n empty_state works.listed works.kept (old.items ++ are_row_items works.rows) (WorkItem v works.weights works.act ∷ [])
      (leads-then s arcs n empty_state old.kept works.listed old.items (are_row_items works.rows) core.accepted works.rows_accepted) (works.kept, work, refl);
  rows = subst (HasPointRows s arcs) (sym work.rows) rows;
  held_unworked = work-unworked old.kept.nodes works.kept.nodes old.lanes lane v works.held
      (λ u x other e. other-acted s arcs works.listed v work.node work.value works.act works.kept.nodes work.made work.acted u x other (ap (λ (ns : List Node). node_of ns u) listed.nodes ∙ e))
      core.held_apart core.held_unworked;
  held_apart = work-apart old.lanes lane v works.held core.held_apart;
  legal = legal-after s arcs marks works.act old.known works.known works.known_after core.legal;
  budget = within;
  beaten = beaten-after s arcs works.listed v work.node work.value works.act works.kept.nodes works.worked works.weights old.known works.known work.made work.acted works.worked_is works.chosen works.known_after
      (subst (AreBeaten s old.known) (sym listed.nodes) core.beaten);
  capped = capped-after s arcs works.listed v work.node work.value works.act works.kept.nodes works.worked works.weights old.known work.made work.acted works.worked_is works.chosen
      (subst (AreCapped s arcs) (sym listed.nodes) core.capped);
  alone = λ isolated.
      alone-after s arcs works.listed v work.node work.value works.act works.kept.nodes works.worked.bound works.weights old.known valid are rows core.legal work.acted works.chosen isolated
      (ap length listed.nodes ∙ core.alone isolated);
})
  where
    v : ℕ
    v = works.node

    work : IsWorked s arcs n works.listed v works.weights works.act works.kept
    work = works.work_accepted

    listed : AreListed old.kept works.listed
    listed = rows-listed s arcs n works.rows old.kept works.listed works.rows_accepted

    rows : HasPointRows s arcs works.listed.rows
    rows = point_rows-still s arcs old.kept works.listed listed core.rows

    marks : List Mark
    marks = marks_of arcs works.listed.nodes v

    within : works.kept.works + count_by is_holding (slice_set old.lanes lane None) ≤ n
    within =
        let count = holding-set old.lanes lane (Some v) None works.held in
        let one = work.works in
        let same = listed.works in
        let budget = core.budget in
        omega (arith, count, one, same, budget)
