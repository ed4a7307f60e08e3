-- Lists of cables that differ in their order or in their types alone.
use Rattle.std.specs.Prelude.{◌≡◌, ℕ, List}
use Rattle.cable_definitions.specs.declared.cable.Cable.{Cable}
use Rattle.cable_definitions.specs.Walk.{cable_out}
use Rattle.cable_definitions.specs.Layout.{KeepsStart}
use Rattle.cable_definitions.specs.Part.{end_of}

-- no two cables of the list have one start
abbrev pub StartsDiffer : List Cable → Type 0
StartsDiffer cables = (i : ℕ) → KeepsStart cables i

-- out of each point the first cable is the same
abbrev pub SameOuts : List Cable → List Cable → Type 0
SameOuts xs ys = (p : ℕ) → cable_out xs p ≡ cable_out ys p

-- out of each point the first cable ends in the same point, whatever its type
abbrev pub SameEnds : List Cable → List Cable → Type 0
SameEnds xs ys = (p : ℕ) → end_of xs p ≡ end_of ys p
