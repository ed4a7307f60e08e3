-- A refusal that is kept.
use Rattle.std.proofs.Common.{◌≡◌, ℕ, Some, sym, ap, subst}
use Rattle.cable_definitions.specs.declared.claim.Cause.{Cause}
use Rattle.cable_definitions.specs.Refusal.{IsLeastCause}
use Rattle.cable_definitions.specs.declared.claim.Refusal.{Refusal}
use Rattle.proof_checker.specs.State.{CheckerState, Refuses}

-- the line is refused where its refusal has the least cause and is all that is kept of it
pub refuses : (old new : CheckerState) (line : ℕ) (cause : Cause) (Holds : Cause → Type 0) (refusal : Refusal) → refusal ≡ record { line = line; cause = cause }
    → IsLeastCause Holds cause → new ≡ record old { refused = Some refusal } → Refuses old new line Holds refusal
refuses old new line cause Holds refusal e least state = record {
  line_is = ap (λ (r : Refusal). r.line) e;
  cause_is = subst (IsLeastCause Holds) (ap (λ (r : Refusal). r.cause) (sym e)) least;
  state = state;
}
