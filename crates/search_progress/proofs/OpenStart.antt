-- A search that has listed the first rows, and how a node is taken out of a list.
use Rattle.std.proofs.Common.{◌≡◌, ℕ, ◌+◌, ◌≤◌, List, [], ◌∷◌, length, get_or, slice_get, Some, None, count_by, refl, sym, ◌∙◌, ap, subst, arith, vec_capacity}
use Rattle.std.specs.Prelude.{replicate}
use Rattle.std.specs.List.{swap_remove}
use Rattle.std.specs.List.Sorted.{IsPermutation}
use Rattle.std.proofs.lemmas.List.{length-replicate}
use Rattle.std.proofs.lemmas.List.Folds.{sum_by-replicate}
use Rattle.std.proofs.lemmas.List.Sorted.{IsPermutation-swap_remove}
use Rattle.std.proofs.lemmas.Option.{slice_get_within, get_or_from_slice_get}
use Rattle.cable_definitions.specs.declared.cable.Arc.{Arc}
use Rattle.cable_definitions.specs.Site.{Site, IsValid}
use Rattle.cable_definitions.specs.Arcs.{AreArcs}
use Rattle.cable_definitions.specs.Tree.{Leads, root, empty_state, ceiling}
use Rattle.cable_definitions.specs.Core.{are_row_items, is_holding}
use Rattle.proof_laws.specs.Decided.{HasPointRows}
use Rattle.branch_tree.specs.State.{TreeState, new_tree}
use Rattle.search_progress.specs.Lists.{Lists}
use Rattle.search_progress.specs.Progress.{AreOpen, AreHeld, AreApart, IsKnown, IsSearching}
use Rattle.search_progress.specs.declared.progress.Progress.{Progress}
use Rattle.search_progress.proofs.OpenList.{open-root}
use Rattle.search_progress.proofs.HeldLanes.{one_if_holding, nobody, none-held}

-- the node that stood in a place is taken out
pub removed : (xs ys zs : List ℕ) (i v x : ℕ) → slice_get zs i ≡ Some v → zs ≡ xs → x ≡ get_or xs i x → ys ≡ swap_remove xs i x → IsPermutation xs (v ∷ ys)
removed xs ys zs i v x here e read rest =
    let at : slice_get xs i ≡ Some v = ap (λ (us : List ℕ). slice_get us i) (sym e) ∙ here in
    let same : x ≡ v = read ∙ get_or_from_slice_get xs i v x at in
    subst (λ (us : List ℕ). IsPermutation xs (v ∷ us)) (sym rest) (subst (λ (u : ℕ). IsPermutation xs (u ∷ swap_remove xs i x)) same (IsPermutation-swap_remove xs i x (slice_get_within xs i v at) read))

-- no lane holds a node at the start
none-counted : (count : ℕ) → count_by is_holding (replicate count nobody) ≡ 0
none-counted count = (let e = sum_by-replicate one_if_holding count nobody in omega (arith, e))

-- a search that has listed the first rows and worked no node
pub fresh-searching : (s : Site) (arcs : List Arc) (n lanes : ℕ) (p : Progress) → IsValid s → AreArcs s arcs → 1 ≤ n → n ≤ 50000 → lanes ≤ 16 → p.budget ≡ n → p.ceiling ≡ ceiling s arcs → p.tree ≡ new_tree n (length arcs) → length p.decisions ≡ length arcs
    → p.open_nodes.items ≡ 1 ∷ [] → n + 2 ≤ vec_capacity p.open_nodes → p.lanes.items ≡ replicate lanes nobody → Lists s arcs [] p.pool → HasPointRows s arcs p.pool → p.known ≡ None → IsSearching s arcs n p
fresh-searching s arcs n lanes p valid are some most few limit ceiling_is tree marks open_nodes room empty lists rows known =
    let works = ap (λ (t : TreeState). t.works) tree in
    let one = ap length open_nodes in
    let held = ap (count_by is_holding) empty ∙ none-counted lanes in
    let long = ap length empty in
    let same = length-replicate lanes nobody in
    record {
      valid = valid;
      are_arcs = are;
      some = some;
      most = most;
      limit = limit;
      ceiling_is = ceiling_is;
      budget = ap (λ (t : TreeState). t.budget) tree;
      arcs_count = ap (λ (t : TreeState). t.arcs) tree;
      marks_count = marks;
      room = room;
      few = omega (arith, one, works);
      items = are_row_items lists.rows;
      accepted = subst (λ (t : TreeState). Leads s arcs n empty_state (are_row_items lists.rows) (record { rows = p.pool; nodes = t.nodes; works = t.works })) (sym tree) (lists.accepted n empty_state refl);
      rows = rows;
      are_open = subst (λ (t : TreeState). AreOpen t.nodes p.open_nodes.items) (sym tree) (subst (AreOpen (root ∷ [])) (sym open_nodes) open-root);
      held = subst (AreHeld p.tree.nodes) (sym empty) (λ lane v e. absurd (none-held lanes lane v e));
      apart = subst AreApart (sym empty) (λ i j v e f. absurd (none-held lanes i v e));
      few_lanes = omega (arith, few, long, same);
      within = omega (arith, works, held);
      known = subst (IsKnown s p.best) (sym known) tt;
    }
