-- The arcs that a node marks used, gathered.
use Rattle.std.specs.Prelude.{◌≡◌, ℕ, ◌+◌, ◌≤◌, ◌<◌, List, [], ◌∷◌, ◌++◌, length, take, slice_get, Some, None, Option}
use Rattle.cable_definitions.specs.declared.cable.Cable.{Cable}
use Rattle.cable_definitions.specs.declared.cable.Arc.{Arc}
use Rattle.cable_definitions.specs.declared.row.Mark.{Mark}
use Rattle.cable_definitions.specs.declared.row.Mark.TheVariants.{Used}
use Rattle.cable_definitions.specs.Layout.{Starts}
use Rattle.cable_definitions.specs.Tree.{used_cables}
use Rattle.layout_laws.specs.Alike.{SameOuts}

-- cables with the numbers of their arcs, and the numbers of two arcs that start alike
pub record UsedList : Type 0 where
  pub cables : List Cable
  pub numbers : List ℕ
  pub same_start : Option (ℕ × ℕ)

-- the list with one more cable, of this arc number
abbrev pub with_used : UsedList → ℕ → Cable → UsedList
with_used used number cable = record { cables = used.cables ++ cable ∷ []; numbers = used.numbers ++ number ∷ []; same_start = used.same_start }

-- the list with these two arcs that start alike
abbrev pub with_same_start : UsedList → ℕ → ℕ → UsedList
with_same_start used a b = record { cables = used.cables; numbers = used.numbers; same_start = Some (a, b) }

-- arc number k is marked used, and this is it
pub record IsUsed (arcs : List Arc) (marks : List Mark) (k : ℕ) (arc : Arc) : Type 0 where
  pub is_arc : slice_get arcs k ≡ Some arc
  pub is_used : slice_get marks k ≡ Some Used

-- two used arcs, one after the other, that start alike
pub record StartAlike (arcs : List Arc) (marks : List Mark) (a b : ℕ) : Type 0 where
  pub first : Arc
  pub second : Arc
  pub first_is : IsUsed arcs marks a first
  pub second_is : IsUsed arcs marks b second
  pub before : a < b
  pub alike : first.from ≡ second.from

-- The used arcs below number n are gathered: out of each point the first cable is that of the first of them. Unless two of them start alike, each
-- one has its cable and its number in the list.
pub record AreUsedBelow (arcs : List Arc) (marks : List Mark) (n : ℕ) (used : UsedList) : Type 0 where
  pub outs : SameOuts used.cables (used_cables (take n arcs) (take n marks))
  pub few : length used.cables ≤ 256
  pub numbered : (j k : ℕ) → slice_get used.numbers j ≡ Some k → (arc : Arc) × IsUsed arcs marks k arc
  pub same_start : (a b : ℕ) → used.same_start ≡ Some (a, b) → StartAlike arcs marks a b
  pub same : used.same_start ≡ None → used.cables ≡ used_cables (take n arcs) (take n marks)
  pub all : used.same_start ≡ None → (k : ℕ) (arc : Arc) → k < n → IsUsed arcs marks k arc → (j : ℕ) × (slice_get used.numbers j ≡ Some k)

-- all used arcs are gathered
abbrev pub AreUsed : List Arc → List Mark → UsedList → Type 0
AreUsed arcs marks used = AreUsedBelow arcs marks (length arcs) used

-- The last of the used arcs below number n, where one is gathered, starts in the point before this one; later arcs start there or in a later point.
pub record IsNextStart (arcs : List Arc) (marks : List Mark) (n : ℕ) (used : UsedList) (last next : ℕ) : Type 0 where
  pub few : length used.cables ≤ next
  pub within : next ≤ 256
  pub last_is : 1 ≤ next → (arc : Arc) × (IsUsed arcs marks last arc) × (last < n) × (arc.from + 1 ≡ next) × Starts used.cables arc.from
  pub later : (k : ℕ) (arc : Arc) → n ≤ k → slice_get arcs k ≡ Some arc → next ≤ arc.from + 1
