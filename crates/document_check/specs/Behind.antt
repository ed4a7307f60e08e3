-- Documents behind their site.
use Rattle.std.specs.Prelude.{◌≡◌, ℕ, ◌<◌, List, [], ◌∷◌, ◌++◌, Option, Some, map, length, AllPairs, codes}
use Rattle.std.specs.List.{concat}
use Rattle.std.specs.Fmt.{decimal}
use Rattle.cable_definitions.specs.declared.cable.Cable.{Cable}
use Rattle.cable_definitions.specs.declared.cable.Arc.{Arc}
use Rattle.cable_definitions.specs.declared.claim.Claim.{Claim}
use Rattle.cable_definitions.specs.Site.{Site}
use Rattle.cable_definitions.specs.Arcs.{AreArcs}
use Rattle.cable_definitions.specs.Tree.{Item, ProofState, IsAccepted, Agrees}
use Rattle.cable_definitions.specs.Text.{line, item_lines, cable_line, claim_line}
use Rattle.cable_definitions.specs.Command.{IsBudget}
use Rattle.cable_definitions.specs.Document.{IsClaimInRange}

-- the text of a document behind the lines of its site
abbrev pub text_behind : Site → ℕ → List Item → List Cable → Claim → List ℕ
text_behind s n items cables claim =
    line (codes "budget" ∷ decimal n ∷ []) ++ concat (map item_lines items) ++ line (codes "layout" ∷ decimal (length cables) ∷ [])
    ++ concat (map (cable_line s) cables) ++ claim_line s claim ++ line (codes "end" ∷ codes "document" ∷ [])

-- The bytes to come, where they are told, are the text behind this site of a document that is accepted, with this layout and this claim.
pub record IsAcceptedBehind (s : Site) (before : Option (List ℕ)) (cables : List Cable) (claim : Claim) : Type 0 where
  pub arcs : List Arc
  pub budget : ℕ
  pub items : List Item
  pub state : ProofState
  pub are_arcs : AreArcs s arcs
  pub is_budget : IsBudget budget
  pub in_order : AllPairs (λ c d. c.from < d.from) cables
  pub accepted : IsAccepted s arcs budget items state
  pub in_range : IsClaimInRange claim
  pub agrees : Agrees s budget state cables claim
  pub text : (bytes : List ℕ) → before ≡ Some bytes → bytes ≡ text_behind s budget items cables claim
