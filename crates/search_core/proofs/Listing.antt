-- Rows that are listed while a node is worked.
use Rattle.std.proofs.Common.{◌≡◌, ℕ, ◌+◌, ◌<◌, ◌≤◌, List, [], ◌∷◌, ◌++◌, length, slice_get, Some, All, refl, sym, ◌∙◌, ap, subst, arith, append_assoc, length-append}
use Rattle.std.specs.Prelude.{sum_by}
use Rattle.std.proofs.lemmas.List.{append-nil}
use Rattle.std.proofs.lemmas.List.Sums.{sum_by-append, sum_by-cons, sum_by_push}
use Rattle.std.proofs.lemmas.List.Elements.{All-nil, All-cons, All-head, All-tail, All-append}
use Rattle.cable_definitions.specs.declared.cable.Arc.{Arc}
use Rattle.cable_definitions.specs.Site.{Site}
use Rattle.cable_definitions.specs.Row.{Row, IsWellFormed}
use Rattle.cable_definitions.specs.Tree.{ProofState, empty_state, Leads, IsListed}
use Rattle.cable_definitions.specs.Core.{are_row_items}
use Rattle.proof_laws.specs.Decided.{HasPointRows}
use Rattle.proof_laws.proofs.Boxes.{append_left}
use Rattle.floor_rows.specs.Listed.{HasRoom, ListsSets}
use Rattle.search_progress.specs.Lists.{Lists, AreFew}
use Rattle.search_progress.proofs.RowsListed.{lists-then}

-- no row
pub lists-nothing : (s : Site) (arcs : List Arc) (old new : List Row) → new ≡ old → Lists s arcs old new
lists-nothing s arcs old new e = record {
  rows = [];
  behind = e ∙ sym (append-nil old);
  accepted = λ n kept same. ap (λ (rows : List Row). record kept { rows = rows }) (e ∙ sym same);
}

-- a well-formed row for which there is room
pub lists-row : (s : Site) (arcs : List Arc) (row : Row) (old new : List Row) → IsWellFormed s arcs row → new ≡ old ++ row ∷ []
    → (length old < 16384) × (sum_by (λ (r : Row). length r.members) old + length row.members ≤ 1048576) → Lists s arcs old new
lists-row s arcs row old new w e room = record {
  rows = row ∷ [];
  behind = e;
  accepted = λ n kept same. (record kept { rows = new }, listed kept same, refl);
}
  where
    listed : (kept : ProofState) → kept.rows ≡ old → IsListed s arcs kept row (record kept { rows = new })
    listed kept same =
        let count = ap length e ∙ length-append old (row ∷ []) in
        let members = ap (sum_by (λ (r : Row). length r.members)) e ∙ sum_by-append (λ (r : Row). length r.members) old (row ∷ []) in
        let least = room.0 in
        let most = room.1 in
        record {
          well_formed = w;
          rows_count = omega (arith, count, least);
          members_count = omega (arith, members, most);
          rows = e ∙ ap (λ (rows : List Row). rows ++ row ∷ []) (sym same);
          nodes = refl;
          works = refl;
        }

-- rows that lead on are well formed where the first ones are
leads-well_formed : (s : Site) (arcs : List Arc) (n : ℕ) (rows : List Row) (old new : ProofState) → Leads s arcs n old (are_row_items rows) new → All (IsWellFormed s arcs) old.rows
    → All (IsWellFormed s arcs) new.rows
leads-well_formed s arcs n [] old new p all = subst (λ (k : ProofState). All (IsWellFormed s arcs) k.rows) (sym p) all
leads-well_formed s arcs n (row ∷ rows) old new p all =
    leads-well_formed s arcs n rows p.0 new p.2
    (subst (All (IsWellFormed s arcs)) (sym p.1.rows) (All-append (IsWellFormed s arcs) old.rows (row ∷ []) all (All-cons (IsWellFormed s arcs) row [] p.1.well_formed (All-nil (IsWellFormed s arcs)))))

-- all rows are well formed where the old ones were
pub lists-well_formed : (s : Site) (arcs : List Arc) (old new : List Row) → Lists s arcs old new → All (IsWellFormed s arcs) old → All (IsWellFormed s arcs) new
lists-well_formed s arcs old new lists all =
    leads-well_formed s arcs 0 lists.rows (record empty_state { rows = old }) (record empty_state { rows = new }) (lists.accepted 0 (record empty_state { rows = old }) refl) all

-- what was listed is listed still
pub lists-points : (s : Site) (arcs : List Arc) (old new : List Row) → Lists s arcs old new → HasPointRows s arcs old → HasPointRows s arcs new
lists-points s arcs old new lists have = λ row kind w.
    let there = have row kind w in
    (there.0, subst (λ (rows : List Row). slice_get rows there.0 ≡ Some row) (sym lists.behind) (append_left old lists.rows there.0 row there.1))

-- there are no fewer
pub lists-length : (s : Site) (arcs : List Arc) (old new : List Row) → Lists s arcs old new → length old ≤ length new
lists-length s arcs old new lists =
    let count = ap length lists.behind ∙ length-append old lists.rows in
    omega (arith, count)

-- ---- several rows
-- well-formed rows for which there is room
lists-rows : (s : Site) (arcs : List Arc) (rows old new : List Row) → All (IsWellFormed s arcs) rows → new ≡ old ++ rows → length old + length rows ≤ 16384
    → sum_by (λ (r : Row). length r.members) old + sum_by (λ (r : Row). length r.members) rows ≤ 1048576 → Lists s arcs old new
lists-rows s arcs [] old new all e count members = lists-nothing s arcs old new (e ∙ append-nil old)
lists-rows s arcs (row ∷ rows) old new all e count members =
    let more = length-append old (row ∷ []) in
    let sums = sum_by_push (λ (r : Row). length r.members) old row in
    let parts = sum_by-cons (λ (r : Row). length r.members) row rows in
    lists-then s arcs old (old ++ row ∷ []) new
    (lists-row s arcs row old (old ++ row ∷ []) (All-head (IsWellFormed s arcs) row rows all) refl (omega (arith, count), omega (arith, members, parts)))
    (lists-rows s arcs rows (old ++ row ∷ []) new (All-tail (IsWellFormed s arcs) row rows all) (e ∙ sym (append_assoc old (row ∷ []) rows)) (omega (arith, count, more)) (omega (arith, members, sums, parts)))

-- the rows of sets are listed, where there is room for them
pub lists-sets : (s : Site) (arcs : List Arc) (old new : List Row) → HasRoom old → ListsSets s arcs old new → Lists s arcs old new
lists-sets s arcs old new room sets =
    let rows = room.rows_count in
    let members = room.members_count in
    let more_rows = sets.rows_count in
    let more_members = sets.members_count in
    lists-rows s arcs sets.rows old new sets.well_formed sets.listed (omega (arith, rows, more_rows)) (omega (arith, members, more_members))

-- few rows leave room for those of sets
pub room-few : (rows : List Row) (most : ℕ) → most ≤ 2048 → AreFew rows most → HasRoom rows
room-few rows most l few =
    let a = few.rows_count in
    let b = few.members_count in
    record { rows_count = omega (arith, a, l); members_count = omega (arith, b, l) }
