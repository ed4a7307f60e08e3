-- What a call does to the streams that it is given.
use Rattle.std.specs.Prelude.{◌≡◌, ℕ, ◌⊎◌, List, Some}
use Rattle.cable_definitions.specs.Answers.{write_fault_note}
use Rattle.cable_definitions.specs.Stream.{StreamState, FaultsRose, Appends, AppendsPrefix}
use Rattle.run_definitions.specs.declared.ending.Ending.{Ending}
use Rattle.run_definitions.specs.declared.ending.Ending.TheVariants.{Memory}

-- A stream before and after a call: what is told of a source, or of a sink.
pub record Effect : Type 0 where
  pub before : StreamState
  pub after : StreamState

-- what a call did to a stream of which this is told before and after it
abbrev pub effect : StreamState → StreamState → Effect
effect before after = record { before = before; after = after }

-- the count of faults rose in the call, or stands at its last value
abbrev pub Faulted : Effect → Type 0
Faulted e = FaultsRose e.before e.after

-- the call left the bytes as they were
abbrev pub Untouched : Effect → Type 0
Untouched e = e.after.bytes ≡ e.before.bytes

-- a source told these bytes before the call
abbrev pub Held : Effect → List ℕ → Type 0
Held e bytes = e.before.bytes ≡ Some bytes

-- the call appended this text to a sink
abbrev pub Wrote : Effect → List ℕ → Type 0
Wrote e text = Appends e.before.bytes e.after.bytes text

-- the call appended some first part of this text, or nothing
abbrev pub WroteFirstPart : Effect → List ℕ → Type 0
WroteFirstPart e text = AppendsPrefix e.before.bytes e.after.bytes text

-- the call appended this note, or the note's push failed behind a first part of it
abbrev pub Noted : Effect → List ℕ → Type 0
Noted e text = Wrote e text ⊎ (Faulted e × WroteFirstPart e text)

-- The push of a note failed behind a first part of it. The note on write faults was pushed then: all of it follows, or its push failed too, behind
-- a first part of it.
pub record NoteFailed (e : Effect) (text : List ℕ) : Type 0 where
  pub failed : Faulted e
  pub middle : StreamState
  pub first : Faulted (effect e.before middle) × WroteFirstPart (effect e.before middle) text
  pub second : Noted (effect middle e.after) write_fault_note

-- no stream failed in the call, and memory did not run out
pub record RanWell (input out note : Effect) (ending : Ending) : Type 0 where
  pub input_held : ¬ (Faulted input)
  pub out_held : ¬ (Faulted out)
  pub note_held : ¬ (Faulted note)
  pub memory_held : ¬ (ending ≡ Memory)
