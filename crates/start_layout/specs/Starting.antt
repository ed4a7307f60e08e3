-- Layouts to begin with.
use Rattle.std.specs.Prelude.{◌≡◌, ◌≤◌, ℕ, List, Option, Some, None}
use Rattle.cable_definitions.specs.declared.cable.Cable.{Cable}
use Rattle.cable_definitions.specs.Site.{Site}
use Rattle.cable_definitions.specs.Layout.{IsLegal, cost}
use Rattle.cable_definitions.specs.Part.{IsBlocked}
use Rattle.layout_meaning.specs.Joining.{IsUnjoined}
use Rattle.start_layout.specs.declared.starting.Start.{Start}
use Rattle.start_layout.specs.declared.starting.Start.TheVariants.{Found, Stuck}
use Rattle.start_layout.specs.declared.starting.Incumbent.{Incumbent}

-- each turbine that isn't joined is blocked
abbrev pub AllBlocked : Site → List Cable → Type 0
AllBlocked s part = (p : ℕ) → IsUnjoined s part p → IsBlocked s part p

-- a legal layout and its cost, or a part and a turbine that is blocked there
abbrev pub IsStart : Site → Start → Type 0
IsStart s (Found layout price) = (IsLegal s layout) × (cost s layout ≡ price)
IsStart s (Stuck part turbine) = IsBlocked s part turbine

-- a legal layout and its cost
pub record IsIncumbent (s : Site) (i : Incumbent) : Type 0 where
  pub legal : IsLegal s i.layout
  pub cost_is : cost s i.layout ≡ i.cost

-- there is a legal layout, of at most this cost
abbrev pub IsLegalAtMost : ℕ → Option Incumbent → Type 0
IsLegalAtMost most None = ⊥
IsLegalAtMost most (Some i) = i.cost ≤ most
