-- For callers too: what weights count an arc as, by their sums at its ends and by those of them on sets, and what a choice leaves then.
use Rattle.std.proofs.Common.{◌≡◌, ◌≢◌, ℕ, ◌^◌, ◌<◌, ◌≤◌, ℤ, pos, ◌+ℤ◌, ◌≤ℤ◌, unsigned_abs, Bool, List, length, get_or, slice_get, Some, to_z, of_z, sym, ◌∙◌, subst, arith}
use Rattle.std.specs.Prelude.{IsTrue}
use Rattle.std.specs.Int.{w128}
use Rattle.std.proofs.lemmas.Int.{ints}
use Rattle.std.proofs.lemmas.List.Elements.{All-filter}
use Rattle.std.proofs.lemmas.List.Kept.{AllPairs-filter}
use Rattle.std.proofs.lemmas.Option.{slice_get_within}
use Rattle.cable_definitions.specs.declared.cable.Arc.{Arc}
use Rattle.cable_definitions.specs.Site.{Site, IsValid}
use Rattle.cable_definitions.specs.Arcs.{IsCandidate, AreArcs}
use Rattle.cable_definitions.specs.Row.{Row, on_use, on_load, is_equation}
use Rattle.cable_definitions.specs.Choice.{AreLawful, weighted_on_use, weighted_on_load}
use Rattle.layout_laws.proofs.Typing.{all-at}
use Rattle.cable_rows.specs.declared.counts.Counts.{Counts}
use Rattle.cable_rows.specs.declared.sums.PointSums.{PointSums}
use Rattle.cable_rows.specs.Sums.{is_set_kind, row_is, weights_on, sets_of, AreSummed, AreCounts}
use Rattle.cable_rows.proofs.Weighing.{back, on_use-small, on_load-small}
use Rattle.cable_rows.proofs.Tables.{use_summed, load_summed, sum_small_all}

-- lawful weights that pass a test are lawful
pub some_lawful : (f : Row → Bool) (rows : List Row) (ws : List (ℕ × ℤ)) → AreLawful rows ws → AreLawful rows (weights_on f rows ws)
some_lawful f rows ws h = record {
  ascending = AllPairs-filter (λ (v w : ℕ × ℤ). v.0 < w.0) (λ (w : ℕ × ℤ). row_is f (slice_get rows w.0)) ws h.ascending;
  listed = All-filter (λ (w : ℕ × ℤ). row_is f (slice_get rows w.0)) (λ (w : ℕ × ℤ). w.0 < length rows) ws h.listed;
  not_zero = All-filter (λ (w : ℕ × ℤ). row_is f (slice_get rows w.0)) (λ (w : ℕ × ℤ). w.1 ≢ pos 0) ws h.not_zero;
  small = All-filter (λ (w : ℕ × ℤ). row_is f (slice_get rows w.0)) (λ (w : ℕ × ℤ). unsigned_abs w.1 ≤ 2 ^ 76) ws h.small;
  signs = All-filter (λ (w : ℕ × ℤ). row_is f (slice_get rows w.0)) (λ (w : ℕ × ℤ). (row : Row) → slice_get rows w.0 ≡ Some row → ¬ (IsTrue (is_equation row.kind)) → pos 0 ≤ℤ w.1) ws h.signs;
}

-- the weights on sets are lawful
pub sets_lawful : (rows : List Row) (ws sets : List (ℕ × ℤ)) → AreLawful rows ws → sets ≡ sets_of rows ws → AreLawful rows sets
sets_lawful rows ws sets h e = subst (AreLawful rows) (sym e) (some_lawful (λ row. is_set_kind row.kind) rows ws h)

-- ends of candidate arcs are below 256
pub ends_below : (s : Site) (arcs : List Arc) (a : ℕ) (arc : Arc) → IsValid s → AreArcs s arcs → slice_get arcs a ≡ Some arc → (arc.from < 256) × (arc.to < 256)
ends_below s arcs a arc valid are e = (omega (arith, from, few), omega (arith, to, few))
  where
    candidate : IsCandidate s arc.from arc.to
    candidate = all-at (λ (b : Arc). IsCandidate s b.from b.to) arcs a arc are.candidates e

    from : arc.from < length s.points
    from = slice_get_within s.points arc.from candidate.from candidate.from_is

    to : arc.to < length s.points
    to = slice_get_within s.points arc.to candidate.to candidate.to_is

    few : length s.points ≤ 256
    few = valid.points_count

-- what the sums are at the ends of an arc, and what others count it as, are together what all weights count it as
pub counts_added : (s : Site) (arcs : List Arc) (rows : List Row) (ws others : List (ℕ × ℤ)) (sums : PointSums) (a : ℕ) (arc : Arc) (counts : Counts) → IsValid s → AreArcs s arcs → slice_get arcs a ≡ Some arc → AreSummed rows ws sums others a arc
    → counts.on_use ≡ (get_or sums.use_from arc.from (pos 0) +ℤ get_or sums.use_to arc.to (pos 0)) +ℤ weighted_on_use rows others a arc
    → counts.on_load ≡ (get_or sums.load_from arc.from (pos 0) +ℤ get_or sums.load_to arc.to (pos 0)) +ℤ weighted_on_load rows others arc
    → AreCounts rows ws a arc counts
counts_added s arcs rows ws others sums a arc counts valid are e h u l = record {
  on_use = use_is;
  on_load = load_is;
  on_use_small = subst (λ (z : ℤ). unsigned_abs z ≤ 2 ^ 86) (sym use_is) (sum_small_all (λ (row : Row). on_use row.kind row.members a arc.from arc.to) rows ws h.lawful h.few (λ row. on_use-small row.kind row.members a arc.from arc.to));
  on_load_small = subst (λ (z : ℤ). unsigned_abs z ≤ 2 ^ 86) (sym load_is) (sum_small_all (λ (row : Row). on_load row.kind row.members arc.from arc.to) rows ws h.lawful h.few (λ row. on_load-small row.kind row.members arc.from arc.to));
}
  where
    below : (arc.from < 256) × (arc.to < 256)
    below = ends_below s arcs a arc valid are e

    use_is : counts.on_use ≡ weighted_on_use rows ws a arc
    use_is =
        let x = h.sums_are.use_from_is arc.from below.0 in
        let y = h.sums_are.use_to_is arc.to below.1 in
        let z = h.use_of_others in
        omega (arith, ints, use_summed rows ws a arc.from arc.to, u, x, y, z)

    load_is : counts.on_load ≡ weighted_on_load rows ws arc
    load_is =
        let x = h.sums_are.load_from_is arc.from below.0 in
        let y = h.sums_are.load_to_is arc.to below.1 in
        let z = h.load_of_others in
        omega (arith, ints, load_summed rows ws arc.from arc.to, l, x, y, z)

-- what holds of the counts as the program read them holds of what the weights count
pub counts_read : (P : ℤ → ℤ → Type 0) (rows : List Row) (ws : List (ℕ × ℤ)) (a : ℕ) (arc : Arc) (counts : Counts) → AreCounts rows ws a arc counts
    → P (to_z w128 (of_z w128 counts.on_use)) (to_z w128 (of_z w128 counts.on_load)) → P (weighted_on_use rows ws a arc) (weighted_on_load rows ws arc)
counts_read P rows ws a arc counts h e =
    let on_use = back counts.on_use (let k = h.on_use_small in omega (arith, k)) ∙ h.on_use in
    let on_load = back counts.on_load (let k = h.on_load_small in omega (arith, k)) ∙ h.on_load in
    subst (λ (u : ℤ). P u (weighted_on_load rows ws arc)) on_use (subst (λ (v : ℤ). P (to_z w128 (of_z w128 counts.on_use)) v) on_load e)

-- as the program reads them, these counts are small
pub read_small : (rows : List Row) (ws : List (ℕ × ℤ)) (a : ℕ) (arc : Arc) (counts : Counts) → AreCounts rows ws a arc counts → (unsigned_abs (to_z w128 (of_z w128 counts.on_use)) ≤ 2 ^ 86) × (unsigned_abs (to_z w128 (of_z w128 counts.on_load)) ≤ 2 ^ 86)
read_small rows ws a arc counts h = (kept counts.on_use h.on_use_small, kept counts.on_load h.on_load_small)
  where
    kept : (z : ℤ) → unsigned_abs z ≤ 2 ^ 86 → unsigned_abs (to_z w128 (of_z w128 z)) ≤ 2 ^ 86
    kept z k = subst (λ (y : ℤ). unsigned_abs y ≤ 2 ^ 86) (sym (back z (omega (arith, k)))) k
