-- What a call that reads lines of a document does.
use Rattle.std.specs.Prelude.{◌≡◌, ℕ, suc, ◌+◌, ◌-◌, ◌^◌, ℤ, min, false, List, length, Option, Some, None, Result, Ok, Err, OnOk}
use Rattle.cable_definitions.specs.declared.cable.Arc.{Arc as CandidateArc}
use Rattle.cable_definitions.specs.Site.{Site}
use Rattle.cable_definitions.specs.Text.{Piece, Whole, IsNext}
use Rattle.cable_definitions.specs.Refusal.{DocLine, Phase, AtWeights, Reader, ReadsLines, IsReadable, IsFoundByReading, IsLeastCause, may_end}
use Rattle.cable_definitions.specs.declared.claim.Refusal.{Refusal}
use Rattle.cable_definitions.specs.Stream.{StreamState, FaultsRose, FaultsOnlyRise}
use Rattle.cable_text.specs.Lines.{LinesState, ahead, StandsNext}
use Rattle.proof_text.specs.declared.fault.ItemFault.{ItemFault}
use Rattle.proof_text.specs.declared.fault.ItemFault.TheVariants.{Refused, Read}

-- the number of the line that comes so many after these, which stands still at its last value
abbrev pub line_number_after : ℕ → ℕ → ℕ
line_number_after lines k = min (lines + k) (2 ^ 64 - 1)

-- Where the source tells its bytes, they begin with lines that lead the reader from `start` to `e`, whatever the arcs are, and the rest is to come. A
-- source that tells nothing goes on so.
abbrev pub ReadsTo : Site → Reader → Option (List ℕ) → Option (List ℕ) → List DocLine → Reader → Type 0
ReadsTo s start None after ls e = after ≡ None
ReadsTo s start (Some bytes) after ls e = (rest : List ℕ) × (after ≡ Some rest) × ((arcs : List CandidateArc) → ReadsLines s arcs start bytes ls e rest)

-- the next line may stand where the reader stands, and no cause is found by reading it
abbrev pub ReadsDocLine : Site → Reader → Option (List ℕ) → Option (List ℕ) → DocLine → Type 0
ReadsDocLine s r before after l = (text : List ℕ) × IsReadable s r (Whole text) l × StandsNext before (Whole text) after

-- the first line at which a cause is found by reading, behind lines that are read, with its first cause
pub record IsRefusedHere (s : Site) (start : Reader) (bytes : List ℕ) (lines : ℕ) (refusal : Refusal) : Type 0 where
  pub read_lines : List DocLine
  pub reader : Reader
  pub left : List ℕ
  pub reads : (arcs : List CandidateArc) → ReadsLines s arcs start bytes read_lines reader left
  pub piece : Piece
  pub rest : List ℕ
  pub next : IsNext left piece rest
  pub first : IsLeastCause (IsFoundByReading s reader piece) refusal.cause
  pub line_is : refusal.line ≡ line_number_after lines (1 + length read_lines)

-- the same where the source tells its bytes
abbrev pub RefusedAfter : Site → Reader → Option (List ℕ) → ℕ → Refusal → Type 0
RefusedAfter s start None lines refusal = Unit {0}
RefusedAfter s start (Some bytes) lines refusal = IsRefusedHere s start bytes lines refusal

-- what holds of the refusal, where there is one
abbrev pub IfRefused : {A : Type 0} → Result A ItemFault → (Refusal → Type 0) → Type 0
IfRefused (Ok a) P = Unit {0}
IfRefused (Err (Refused refusal)) P = P refusal
IfRefused (Err Read) P = Unit {0}

-- what holds where the source failed
abbrev pub IfRead : {A : Type 0} → Result A ItemFault → Type 0 → Type 0
IfRead (Ok a) P = Unit {0}
IfRead (Err (Refused refusal)) P = Unit {0}
IfRead (Err Read) P = P

-- the input may not end where the reader stands
abbrev pub IsBeforeLine : Site → Reader → Type 0
IsBeforeLine s r = may_end r.phase ≡ false

-- the reader stands at this phase, whatever the site is
abbrev pub IsAt : Phase → Site → Reader → Type 0
IsAt phase s r = r.phase ≡ phase

-- the same where the site is this one
abbrev pub IsAtOf : Site → Phase → Site → Reader → Type 0
IsAtOf site phase s r = (s ≡ site) × (r.phase ≡ phase)

-- the reader awaits the line of a weight
abbrev pub AwaitsWeight : Site → Reader → Type 0
AwaitsWeight s r = (v k : ℕ) × (weights : List (ℕ × ℤ)) × (r.phase ≡ AtWeights v (suc k) weights)

-- the reader awaits the line of an act
abbrev pub AwaitsAct : Site → Reader → Type 0
AwaitsAct s r = (v : ℕ) × (weights : List (ℕ × ℤ)) × (r.phase ≡ AtWeights v 0 weights)

-- What a call does that reads one line of a document where the reader stands so: the line was read and is the last, or its refusal is the first, or the
-- source failed.
pub record ReadsOneLine {A : Type 0} (result : Result A ItemFault) (StandsSo : Site → Reader → Type 0) (old new : LinesState) (source_old source_new : StreamState) : Type 0 where
  pub no_fault : OnOk result (new.fault ≡ None)
  pub number : OnOk result (new.number ≡ new.lines)
  pub lines : OnOk result (new.lines ≡ line_number_after old.lines 1)
  pub refused : IfRefused result (λ refusal. (s : Site) (r : Reader) → StandsSo s r → RefusedAfter s r (ahead old source_old) old.lines refusal)
  pub read : IfRead result (FaultsRose source_old source_new)
  pub count : FaultsOnlyRise source_old source_new
