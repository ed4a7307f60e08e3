-- Notes whose push failed.
use Rattle.std.proofs.Common.{ℕ, ◌≤◌, List, inl, arith, ⊎_elim}
use Rattle.cable_definitions.specs.Answers.{write_fault_note}
use Rattle.cable_definitions.specs.Stream.{StreamState, Rose, FaultsRose, FaultsOnlyRise, AppendsPrefix}
use Rattle.run_definitions.specs.Effect.{effect, Noted, NoteFailed}

-- a count that rose stays risen
rose_on : (i j k : ℕ) → i ≤ j → j ≤ k → Rose i j → Rose i k
rose_on i j k h l r = ⊎_elim (λ p. inl (omega (arith, p, l))) (λ p. grind (arith, p, h, l)) r

-- a note that failed, and then the note on that
pub failed_twice : (before middle after : StreamState) (text : List ℕ) → FaultsOnlyRise before middle → FaultsOnlyRise middle after → FaultsRose before middle
    → AppendsPrefix before.bytes middle.bytes text → Noted (effect middle after) write_fault_note → NoteFailed (effect before after) text
failed_twice before middle after text h l r p n = record { failed = rose_on before.faults middle.faults after.faults h l r; middle = middle; first = (r, p); second = n }
