-- Layouts that aren't legal, and claims that disagree.
use Rattle.std.proofs.Common.{ℕ, ◌<◌, List, arith}
use Rattle.cable_definitions.specs.declared.cable.Cable.{Cable}
use Rattle.cable_definitions.specs.declared.claim.Claim.{Claim}
use Rattle.cable_definitions.specs.declared.claim.Cause.{Cause}
use Rattle.cable_definitions.specs.declared.claim.Cause.TheVariants.{Layout, Verdict}
use Rattle.cable_definitions.specs.Site.{Site}
use Rattle.cable_definitions.specs.Tree.{ProofState, LayoutAgrees, BoundAgrees}
use Rattle.cable_definitions.specs.Refusal.{IsClaimRefused, cause_number, IsLeastCause}

earlier_claim : (s : Site) (n : ℕ) (kept : ProofState) (cables : List Cable) (claim : Claim) → LayoutAgrees s cables claim
    → (other : Cause) → cause_number other < 12 → ¬ (IsClaimRefused s n kept cables claim other)
earlier_claim s n kept cables claim layout Layout l h = h layout
earlier_claim s n kept cables claim layout Verdict l h = absurd (omega (arith, l))
earlier_claim s n kept cables claim layout other l h = absurd h

-- where the layout agrees and the bound doesn't, the cause is that of the verdict
pub least_verdict : (s : Site) (n : ℕ) (kept : ProofState) (cables : List Cable) (claim : Claim) → LayoutAgrees s cables claim → ¬ (BoundAgrees n kept claim)
    → IsLeastCause (IsClaimRefused s n kept cables claim) Verdict
least_verdict s n kept cables claim layout bound = record { holds = bound; least = earlier_claim s n kept cables claim layout }
