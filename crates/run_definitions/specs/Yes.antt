-- What a lender reads: what is so wherever `check` says yes.
use Rattle.std.specs.Prelude.{◌≡◌, ℕ, List}
use Rattle.cable_definitions.specs.declared.cable.Cable.{Cable}
use Rattle.cable_definitions.specs.declared.claim.Claim.{Claim}
use Rattle.cable_definitions.specs.declared.claim.Claim.TheVariants.{Optimal, Gap, Partial, Infeasible}
use Rattle.cable_definitions.specs.Site.{Site}
use Rattle.cable_definitions.specs.Layout.{IsLegal, cost}
use Rattle.cable_definitions.specs.Tree.{Says}
use Rattle.cable_definitions.specs.Document.{IsSiteAtFront}
use Rattle.cable_definitions.specs.Answers.{yes_line}
use Rattle.run_definitions.specs.Effect.{Effect, Wrote}

-- some legal layout has the cost that the claim names, where it names one
abbrev pub IsReached : Site → Claim → Type 0
IsReached s (Optimal best) = (cables : List Cable) × IsLegal s cables × (cost s cables ≡ best)
IsReached s (Gap best bound) = (cables : List Cable) × IsLegal s cables × (cost s cables ≡ best)
IsReached s (Partial bound stuck) = Unit {0}
IsReached s Infeasible = Unit {0}

-- The bytes begin with the lines of a valid site; what was written is the yes to a claim; no legal layout of that site costs less than the claim's
-- bound, or there is none; and a cost that the claim names is that of some legal layout.
pub record IsTrueYes (bytes : List ℕ) (out : Effect) : Type 0 where
  pub site : Site
  pub rest : List ℕ
  pub front : IsSiteAtFront bytes site rest
  pub claim : Claim
  pub written : Wrote out (yes_line claim)
  pub says : Says site claim
  pub reached : IsReached site claim
