-- What a fault does to the notes, and how the call ends then.
use Rattle.std.specs.Prelude.{◌≡◌, ◌⊎◌, Result, Ok, Err}
use Rattle.cable_definitions.specs.Answers.{site_note, document_note, read_fault_note, write_fault_note, memory_note}
use Rattle.run_definitions.specs.declared.ending.Ending.{Ending}
use Rattle.run_definitions.specs.declared.ending.Ending.TheVariants.{SiteRefused, DocumentRefused, ReadFault, WriteFault, Memory as EndsInWant}
use Rattle.run_definitions.specs.Effect.{Effect, Untouched, Wrote, Noted, NoteFailed}
use Rattle.cable_run.specs.declared.fault.Fault.{Fault}
use Rattle.cable_run.specs.declared.fault.Fault.TheVariants.{OfSite, OfDocument, Read, Write, Memory}

-- A refusal is noted, or its note failed; another fault is noted once.
abbrev pub IsNoted : Fault → Effect → Ending → Type 0
IsNoted (OfSite code place) note ending =
    ((ending ≡ SiteRefused) × Wrote note (site_note code place)) ⊎ ((ending ≡ WriteFault) × NoteFailed note (site_note code place))
IsNoted (OfDocument refusal) note ending =
    ((ending ≡ DocumentRefused) × Wrote note (document_note refusal.cause refusal.line)) ⊎ ((ending ≡ WriteFault) × NoteFailed note (document_note refusal.cause refusal.line))
IsNoted Read note ending = (ending ≡ ReadFault) × Noted note read_fault_note
IsNoted Write note ending = (ending ≡ WriteFault) × Noted note write_fault_note
IsNoted Memory note ending = (ending ≡ EndsInWant) × Noted note memory_note

-- work that is done ends so, and nothing is noted; a fault is noted
abbrev pub EndsAs : Result Ending Fault → Effect → Ending → Type 0
EndsAs (Ok own) note ending = (ending ≡ own) × Untouched note
EndsAs (Err fault) note ending = IsNoted fault note ending
