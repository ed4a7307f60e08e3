-- Lines of the bytes of a source.
use Rattle.std.specs.Prelude.{◌≡◌, ℕ, ◌+◌, ◌-◌, ◌^◌, ◌<◌, ◌≤◌, min, List, ◌∷◌, ◌++◌, length, slice_get, Option, Some, None, Result, Ok, Err}
use Rattle.cable_definitions.specs.Text.{Piece, Whole, LongLine, CutLine, NoLine, IsNext, HasNoNewline}
use Rattle.cable_definitions.specs.Stream.{StreamState, FaultsRose, IsAtEnd}
use Rattle.cable_text.specs.declared.fault.Line.{Line}
use Rattle.cable_text.specs.declared.fault.Line.TheVariants.{Text, End}
use Rattle.cable_text.specs.declared.fault.LineFault.{LineFault}
use Rattle.cable_text.specs.declared.fault.LineFault.TheVariants.{TooLong, NoNewline, Read}

-- what a buffer holds: the last line without its newline, and the bytes that were pulled and belong to no line yet
pub record BufferState : Type 0 where
  pub text : List ℕ
  pub pending : List ℕ

-- what a reader of lines holds: beside that how many lines it has read, the number of the last line, missing or broken ones included, and the fault that it keeps
pub record LinesState : Type 0 where
  pub text : List ℕ
  pub pending : List ℕ
  pub lines : ℕ
  pub number : ℕ
  pub fault : Option LineFault

-- the pending bytes began with the line and a newline
pub record CutsLine (pending : List ℕ) (new : BufferState) : Type 0 where
  pub whole : pending ≡ new.text ++ 10 ∷ new.pending
  pub plain : HasNoNewline new.text
  pub short : length new.text ≤ 4096

-- all bytes that are to come: those pending, and those left in a source that tells them
abbrev pub to_come : List ℕ → Option (List ℕ) → Option (List ℕ)
to_come pending None = None
to_come pending (Some left) = Some (pending ++ left)

-- all bytes that are to come to a reader of lines from its source
abbrev pub ahead : LinesState → StreamState → Option (List ℕ)
ahead lines source = to_come lines.pending source.bytes

-- this piece stands next in the bytes to come, and these are left after it
abbrev pub StandsNext : Option (List ℕ) → Piece → Option (List ℕ) → Type 0
StandsNext None piece after = after ≡ None
StandsNext (Some bytes) piece after = (rest : List ℕ) × IsNext bytes piece rest × (after ≡ Some rest)

-- what a search for the next line does to the bytes to come: a source that tells nothing gives short lines without a newline all
-- the same; and `failed` is so where the source failed
abbrev pub ReadsPiece : Option (List ℕ) → Option (List ℕ) → List ℕ → Type 0 → Result Line LineFault → Type 0
ReadsPiece old new text failed (Ok Text) = StandsNext old (Whole text) new × HasNoNewline text × (length text ≤ 4096)
ReadsPiece old new text failed (Ok End) = StandsNext old NoLine new
ReadsPiece old new text failed (Err TooLong) = StandsNext old LongLine new
ReadsPiece old new text failed (Err NoNewline) = StandsNext old CutLine new
ReadsPiece old new text failed (Err Read) = failed

-- the number of the line after so many, which stands still at its last value
abbrev pub next_number : ℕ → ℕ
next_number lines = min (lines + 1) (2 ^ 64 - 1)

-- how many lines were read after a call with this answer
abbrev pub lines_after : ℕ → Result Line LineFault → ℕ
lines_after lines (Ok Text) = next_number lines
lines_after lines (Ok End) = lines
lines_after lines (Err fault) = lines

-- the fault that is kept after such an answer
abbrev pub fault_of : {A : Type 0} → Result A LineFault → Option LineFault
fault_of (Ok a) = None
fault_of (Err fault) = Some fault

-- what a call for the next line does, where no fault was kept
pub record ReadsLine (old new : LinesState) (source_old source_new : StreamState) (result : Result Line LineFault) : Type 0 where
  pub piece : ReadsPiece (ahead old source_old) (ahead new source_new) new.text (FaultsRose source_old source_new) result
  pub number : new.number ≡ next_number old.lines
  pub lines : new.lines ≡ lines_after old.lines result
  pub fault : new.fault ≡ fault_of result

-- a look at the next byte finds it and leaves it, or finds the end, or a count rose
abbrev pub PeeksByte : LinesState → LinesState → StreamState → StreamState → Result (Option ℕ) LineFault → Type 0
PeeksByte old new source_old source_new (Ok (Some b)) =
    (slice_get new.pending 0 ≡ Some b) × (ahead new source_new ≡ ahead old source_old) × (new.number ≡ old.number) × (new.lines ≡ old.lines) × (new.fault ≡ None)
PeeksByte old new source_old source_new (Ok None) =
    IsAtEnd (ahead old source_old) × (ahead new source_new ≡ ahead old source_old) × (new.number ≡ old.number) × (new.lines ≡ old.lines) × (new.fault ≡ None)
PeeksByte old new source_old source_new (Err fault) =
    (fault ≡ Read) × FaultsRose source_old source_new × (new.number ≡ next_number old.lines) × (new.lines ≡ old.lines) × (new.fault ≡ Some Read)

-- these are all bytes to come, where they are told
abbrev pub IsRest : Option (List ℕ) → List ℕ → Type 0
IsRest None bytes = Unit {0}
IsRest (Some all) bytes = all ≡ bytes

-- more bytes than this were to come, where they are told
abbrev pub IsLonger : Option (List ℕ) → ℕ → Type 0
IsLonger None most = Unit {0}
IsLonger (Some all) most = most < length all
