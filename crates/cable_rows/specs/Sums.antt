-- What weights count by the ends of arcs, and the weights whose rows count arcs otherwise.
use Rattle.std.specs.Prelude.{◌≡◌, ℕ, ◌+◌, ◌^◌, ◌≤◌, ◌<◌, ℤ, pos, negsuc, ◌*ℤ◌, unsigned_abs, List, length, filter, slice_get, slice_index_or, Option, Some, None, Bool, true, false, nat_lt, cond}
use Rattle.std.specs.List.{list_any}
use Rattle.cable_definitions.specs.declared.cable.Arc.{Arc}
use Rattle.cable_definitions.specs.declared.row.RowKind.{RowKind}
use Rattle.cable_definitions.specs.declared.row.RowKind.TheVariants.{Out, Flow, Inlet, Bend, Power, One, Cut}
use Rattle.cable_definitions.specs.Row.{Row, is_member, one_if}
use Rattle.cable_definitions.specs.Choice.{AreLawful, sum_weighted, weighted_on_use, weighted_on_load}
use Rattle.candidate_cables.specs.Tables.{IsFirstFrom}
use Rattle.cable_rows.specs.declared.counts.Counts.{Counts}
use Rattle.cable_rows.specs.declared.sums.PointSums.{PointSums}
use Rattle.cable_rows.specs.declared.sums.Part.{Part}
use Rattle.cable_rows.specs.declared.sums.Part.TheVariants.{UseFrom, UseTo, LoadFrom, LoadTo}

-- as what a row of this kind counts an arc by an end that is a member
abbrev pub sign : Part → RowKind → ℤ
sign UseFrom Out = pos 1
sign UseFrom Bend = pos 1
sign UseFrom kind = pos 0
sign UseTo Inlet = negsuc 0
sign UseTo Bend = negsuc 0
sign UseTo kind = pos 0
sign LoadFrom Flow = pos 1
sign LoadFrom kind = pos 0
sign LoadTo Flow = negsuc 0
sign LoadTo Power = negsuc 0
sign LoadTo kind = pos 0

-- what a row counts of an arc by its end p
abbrev pub part_of : Part → ℕ → Row → ℤ
part_of part p row = sign part row.kind *ℤ one_if (is_member row.members p)

-- whether rows of this kind count arcs by more than one of their ends
abbrev pub is_set_kind : RowKind → Bool
is_set_kind Out = false
is_set_kind Flow = false
is_set_kind Inlet = false
is_set_kind Bend = false
is_set_kind Power = false
is_set_kind One = true
is_set_kind Cut = true

-- f of a listed row; false without one
abbrev pub row_is : (Row → Bool) → Option Row → Bool
row_is f None = false
row_is f (Some row) = f row

-- the weights on rows that pass a test
abbrev pub weights_on : (Row → Bool) → List Row → List (ℕ × ℤ) → List (ℕ × ℤ)
weights_on f rows weights = filter (λ w. row_is f (slice_get rows w.0)) weights

-- the weights on rows that count arcs by more than one of their ends
abbrev pub sets_of : List Row → List (ℕ × ℤ) → List (ℕ × ℤ)
sets_of rows weights = weights_on (λ row. is_set_kind row.kind) rows weights

-- for each of 256 points the weighted sum of what the rows count by it
abbrev pub IsTable : Part → List Row → List (ℕ × ℤ) → List ℤ → Type 0
IsTable part rows weights table = (p : ℕ) → p < 256 → slice_index_or table p (pos 0) ≡ sum_weighted (part_of part p) rows weights

-- the sums are those of what the weights count by the ends of arcs
pub record ArePointSums (rows : List Row) (weights : List (ℕ × ℤ)) (sums : PointSums) : Type 0 where
  pub use_from_is : IsTable UseFrom rows weights sums.use_from
  pub use_to_is : IsTable UseTo rows weights sums.use_to
  pub load_from_is : IsTable LoadFrom rows weights sums.load_from
  pub load_to_is : IsTable LoadTo rows weights sums.load_to

-- each of 256 sums is small
abbrev pub IsSmallTable : List ℤ → Type 0
IsSmallTable table = (p : ℕ) → p < 256 → unsigned_abs (slice_index_or table p (pos 0)) ≤ 2 ^ 86

pub record AreSmallSums (sums : PointSums) : Type 0 where
  pub use_from : IsSmallTable sums.use_from
  pub use_to : IsSmallTable sums.use_to
  pub load_from : IsSmallTable sums.load_from
  pub load_to : IsSmallTable sums.load_to

-- the sums are those of lawful weights, and these others count arc number a as those of the weights do whose rows count arcs otherwise
pub record AreSummed (rows : List Row) (weights : List (ℕ × ℤ)) (sums : PointSums) (others : List (ℕ × ℤ)) (a : ℕ) (arc : Arc) : Type 0 where
  pub lawful : AreLawful rows weights
  pub few : length weights ≤ 1024
  pub sums_are : ArePointSums rows weights sums
  pub use_of_others : weighted_on_use rows others a arc ≡ weighted_on_use rows (sets_of rows weights) a arc
  pub load_of_others : weighted_on_load rows others arc ≡ weighted_on_load rows (sets_of rows weights) arc

-- these counts are what the weights count arc number a as, and are small
pub record AreCounts (rows : List Row) (weights : List (ℕ × ℤ)) (a : ℕ) (arc : Arc) (counts : Counts) : Type 0 where
  pub on_use : counts.on_use ≡ weighted_on_use rows weights a arc
  pub on_load : counts.on_load ≡ weighted_on_load rows weights arc
  pub on_use_small : unsigned_abs counts.on_use ≤ 2 ^ 86
  pub on_load_small : unsigned_abs counts.on_load ≤ 2 ^ 86

-- whether a number is one from first up to past
abbrev pub is_between : ℕ → ℕ → ℕ → Bool
is_between first past m = cond (nat_lt m first) false (nat_lt m past)

-- whether a row on sets may count an arc out of p, where the arcs out of p are those from first up to past
abbrev pub may_count : ℕ → ℕ → ℕ → RowKind → List ℕ → Bool
may_count p first past One members = list_any (λ m. is_between first past m) members
may_count p first past Cut members = is_member members p
may_count p first past kind members = true

-- the weights on rows that may count an arc out of p
pub record AreNear (arcs : List Arc) (rows : List Row) (sets : List (ℕ × ℤ)) (p : ℕ) (near : List (ℕ × ℤ)) : Type 0 where
  pub first : ℕ
  pub past : ℕ
  pub first_is : IsFirstFrom arcs p first
  pub past_is : IsFirstFrom arcs (p + 1) past
  pub near_are : near ≡ weights_on (λ row. may_count p first past row.kind row.members) rows sets
