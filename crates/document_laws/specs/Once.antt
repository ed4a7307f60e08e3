-- Accepted bytes are read in one way.
use Rattle.std.specs.Prelude.{◌≡◌, ℕ, List}
use Rattle.cable_definitions.specs.declared.claim.Claim.{Claim}
use Rattle.cable_definitions.specs.Site.{Site}
use Rattle.cable_definitions.specs.Document.{IsAcceptedDocument}

-- two accepted readings of these bytes have one site, one budget, one list of items, one of cables, and one claim
pub record SameReading (bytes : List ℕ) (s t : Site) (claim other : Claim) (y : IsAcceptedDocument bytes s claim) (z : IsAcceptedDocument bytes t other) : Type 0 where
  pub sites : s ≡ t
  pub budgets : y.budget ≡ z.budget
  pub lists : y.items ≡ z.items
  pub layouts : y.cables ≡ z.cables
  pub claims : claim ≡ other
