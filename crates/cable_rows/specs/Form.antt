-- One question on the form of a row: met at all places, or first not met at some.
use Rattle.std.specs.Prelude.{◌≡◌, ℕ, ◌<◌, List, slice_get, Some}
use Rattle.cable_definitions.specs.declared.cable.Arc.{Arc}
use Rattle.cable_definitions.specs.declared.row.RowKind.{RowKind}
use Rattle.cable_definitions.specs.declared.row.RowFault.{RowFault}
use Rattle.cable_definitions.specs.Site.{Site}
use Rattle.cable_definitions.specs.Layout.{IsBefore}
use Rattle.cable_definitions.specs.Row.{Question, Incompatible, Meets, Names, AreIncompatible}

-- the question is met at all places
abbrev pub IsMet : Site → List Arc → RowKind → List ℕ → Question → Type 0
IsMet s arcs kind members question = (i j : ℕ) → Meets s arcs kind members question i j

-- the question isn't met, and the fault names it at its least places
pub record IsFirstUnmet (s : Site) (arcs : List Arc) (kind : RowKind) (members : List ℕ) (question : Question) (fault : RowFault) : Type 0 where
  pub place : ℕ
  pub second_place : ℕ
  pub not_met : ¬ (Meets s arcs kind members question place second_place)
  pub named : Names members question place second_place fault
  pub earlier_places : (i j : ℕ) → IsBefore i j place second_place → Meets s arcs kind members question i j

-- the arcs at two places are incompatible, where the second comes later
abbrev pub IsPairedWell : Site → List Arc → List ℕ → ℕ → ℕ → Type 0
IsPairedWell s arcs members i j = (m n : ℕ) (a b : Arc) → i < j → slice_get members i ≡ Some m → slice_get members j ≡ Some n
    → slice_get arcs m ≡ Some a → slice_get arcs n ≡ Some b → AreIncompatible s a b

-- the arc at the first place has a later one that isn't incompatible with it, and the fault names both at the least second place
pub record IsFirstBadPair (s : Site) (arcs : List Arc) (members : List ℕ) (first : ℕ) (fault : RowFault) : Type 0 where
  pub second : ℕ
  pub not_well : ¬ (IsPairedWell s arcs members first second)
  pub named : Names members Incompatible first second fault
  pub earlier : (j : ℕ) → j < second → IsPairedWell s arcs members first j
