-- The number of an arc in a list, and the tables beside the list.
use Rattle.std.specs.Prelude.{◌≡◌, ℕ, ◌≤◌, ◌<◌, List, length, All, AllPairs, Contains, slice_get, Some}
use Rattle.cable_definitions.specs.declared.cable.Arc.{Arc}
use Rattle.cable_definitions.specs.Arcs.{ArcBefore}

-- arc number n of the list joins these points
pub record IsNumberOf (arcs : List Arc) (from to n : ℕ) : Type 0 where
  pub arc : Arc
  pub arc_is : slice_get arcs n ≡ Some arc
  pub start : arc.from ≡ from
  pub end : arc.to ≡ to

-- n is the number of the first arc that starts in p or later, or the count of the arcs where there is none
pub record IsFirstFrom (arcs : List Arc) (p n : ℕ) : Type 0 where
  pub within : n ≤ length arcs
  pub earlier : (k : ℕ) (a : Arc) → k < n → slice_get arcs k ≡ Some a → a.from < p
  pub later : (k : ℕ) (a : Arc) → n ≤ k → slice_get arcs k ≡ Some a → p ≤ a.from

-- the numbers below count of the arcs that end in q, ascending
pub record AreNumbersBelow (arcs : List Arc) (q count : ℕ) (numbers : List ℕ) : Type 0 where
  pub ascending : AllPairs (λ m n. m < n) numbers
  pub below : All (λ n. n < count) numbers
  pub ends : All (λ n. (a : Arc) → slice_get arcs n ≡ Some a → a.to ≡ q) numbers
  pub all : (n : ℕ) (a : Arc) → n < count → slice_get arcs n ≡ Some a → a.to ≡ q → Contains numbers n

-- the numbers of the arcs that end in q, ascending
abbrev pub AreNumbersInto : List Arc → ℕ → List ℕ → Type 0
AreNumbersInto arcs q numbers = AreNumbersBelow arcs q (length arcs) numbers

-- for each number below the table's length that of the first arc that starts there or later
abbrev pub AreFirst : List Arc → List ℕ → Type 0
AreFirst arcs first = (p n : ℕ) → slice_get first p ≡ Some n → IsFirstFrom arcs p n

-- for each number below the table's length the numbers of the arcs that end there
abbrev pub AreAllInto : List Arc → List (List ℕ) → Type 0
AreAllInto arcs into = (q : ℕ) (numbers : List ℕ) → slice_get into q ≡ Some numbers → AreNumbersInto arcs q numbers

-- a list of arcs in order, with its tables, which reach past every start and every end
pub record AreTables (arcs : List Arc) (first : List ℕ) (into : List (List ℕ)) : Type 0 where
  pub in_order : AllPairs ArcBefore arcs
  pub count : length arcs ≤ 65280
  pub first_is : AreFirst arcs first
  pub starts : All (λ a. a.from < length first) arcs
  pub into_is : AreAllInto arcs into
  pub ends : All (λ a. a.to < length into) arcs
