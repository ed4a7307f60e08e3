-- Sums of extremes over some of the arcs.
use Rattle.std.specs.Prelude.{◌≡◌, ℕ, zero, suc, ◌+◌, ◌≤◌, ◌<◌, ℤ, pos, List, [], ◌∷◌, length, slice_get, Option, Some, None, AllPairs, Bool, true, false}
use Rattle.cable_definitions.specs.declared.cable.Arc.{Arc}
use Rattle.cable_definitions.specs.declared.row.Mark.{Mark}
use Rattle.cable_definitions.specs.declared.row.RowKind.{RowKind}
use Rattle.cable_definitions.specs.declared.row.RowKind.TheVariants.{Out, Flow, Inlet, Bend, Power, One, Cut}
use Rattle.cable_definitions.specs.Site.{Site}
use Rattle.cable_definitions.specs.Sums.{sum_int}
use Rattle.cable_definitions.specs.Row.{Row, is_member, on_use, on_load}
use Rattle.cable_definitions.specs.Choice.{Choice, IsExtreme}

-- whether an arc starts in one of these points
abbrev pub starts_in : List ℕ → Option Arc → Bool
starts_in points None = false
starts_in points (Some arc) = is_member points arc.from

-- the values of a function at n numbers from k on
abbrev pub values : (ℕ → ℤ) → ℕ → ℕ → List ℤ
values f k zero = []
values f k (suc n) = f k ∷ values f (k + 1) n

-- an extreme of f at the choices of arc number a
abbrev pub IsExtremeAt : (ℤ → ℤ → Type 0) → Site → List Arc → List Mark → (ℕ → Arc → Choice → ℤ) → ℕ → ℤ → Type 0
IsExtremeAt Relates s arcs marks f a z = (arc : Arc) (mark : Mark) → slice_get arcs a ≡ Some arc → slice_get marks a ≡ Some mark → IsExtreme Relates s arc mark (f a arc) z

-- the sum of the extremes of f at those of the arcs that pass a test
pub record IsSumAt (Relates : ℤ → ℤ → Type 0) (s : Site) (arcs : List Arc) (marks : List Mark) (f : ℕ → Arc → Choice → ℤ) (test : ℕ → Bool) (total : ℤ) : Type 0 where
  pub value_at : ℕ → ℤ
  pub elsewhere : (a : ℕ) → a < length arcs → test a ≡ false → value_at a ≡ pos 0
  pub extremes : (a : ℕ) → a < length arcs → test a ≡ true → IsExtremeAt Relates s arcs marks f a (value_at a)
  pub sum : total ≡ sum_int (λ z. z) (values value_at 0 (length arcs))

-- the points by whose arcs out a row of this kind counts
abbrev pub start_points : RowKind → List ℕ → List ℕ
start_points Out members = members
start_points Flow members = members
start_points Inlet members = []
start_points Bend members = members
start_points Power members = []
start_points One members = []
start_points Cut members = members

-- the arcs of these numbers, in ascending order, are all that a row may count beside those out of these points
pub record AreFurther (arcs : List Arc) (row : Row) (numbers : List ℕ) : Type 0 where
  pub ascending : AllPairs (λ m n. m < n) numbers
  pub few : length numbers ≤ 65280
  pub apart : (a : ℕ) → starts_in (start_points row.kind row.members) (slice_get arcs a) ≡ true → is_member numbers a ≡ false
  pub others : (a : ℕ) (arc : Arc) → slice_get arcs a ≡ Some arc → starts_in (start_points row.kind row.members) (slice_get arcs a) ≡ false → is_member numbers a ≡ false
      → (on_use row.kind row.members a arc.from arc.to ≡ pos 0) × (on_load row.kind row.members arc.from arc.to ≡ pos 0)
