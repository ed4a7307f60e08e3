-- The layout that a search begins with, and how a layout is settled and claimed.
use Rattle.std.specs.Prelude.{◌≡◌, ℕ, ◌<◌, ◌≤◌, ◌⊎◌, List, Option, Some, None, AllPairs}
use Rattle.cable_definitions.specs.declared.cable.Cable.{Cable}
use Rattle.cable_definitions.specs.declared.claim.Claim.{Claim}
use Rattle.cable_definitions.specs.declared.claim.Claim.TheVariants.{Optimal, Gap, Partial}
use Rattle.cable_definitions.specs.Site.{Site}
use Rattle.cable_definitions.specs.Layout.{IsLegal, cost}
use Rattle.cable_definitions.specs.Part.{IsBlocked, IsSettled, IsStraight}
use Rattle.search_parts.specs.declared.start.Incumbent.{Incumbent}
use Rattle.search_parts.specs.declared.start.Incumbent.TheVariants.{Known, Part}

-- the cables stand in ascending order of start
abbrev pub AreInOrder : List Cable → Type 0
AreInOrder cables = AllPairs (λ c d. c.from < d.from) cables

-- a legal layout with this cost, in ascending order of start
pub record IsIncumbent (s : Site) (cables : List Cable) (total : ℕ) : Type 0 where
  pub legal : IsLegal s cables
  pub cost_is : cost s cables ≡ total
  pub in_order : AreInOrder cables

-- a grown part in ascending order of start, to which this turbine can't be joined
pub record IsStuckPart (s : Site) (cables : List Cable) (stuck : ℕ) : Type 0 where
  pub blocked : IsBlocked s cables stuck
  pub in_order : AreInOrder cables

-- what a search may begin with: a settled layout with its cost, or a part to which a turbine can't be joined, in ascending order of start
abbrev pub CanBegin : Site → Incumbent → Type 0
CanBegin s (Known settled) = IsSettled s settled.layout × IsIncumbent s settled.layout settled.cost
CanBegin s (Part part turbine) = IsStuckPart s part turbine

-- no layout is known
abbrev pub IsPart : Incumbent → Type 0
IsPart (Known settled) = ⊥
IsPart (Part part turbine) = Unit {0}

-- a layout is known, and it costs at most this
abbrev pub IsKnownAtMost : Incumbent → ℕ → Type 0
IsKnownAtMost (Known settled) most = settled.cost ≤ most
IsKnownAtMost (Part part turbine) most = ⊥

-- a layout is known that costs at most what the straight layout costs, where that is legal
abbrev pub BeatsStraight : Site → Incumbent → Type 0
BeatsStraight s start = (straight : List Cable) → IsStraight s straight → IsLegal s straight → IsKnownAtMost start (cost s straight)

-- A settled layout in ascending order of start with this cost, which is at most that of the first one; where it isn't below, and the first one is in
-- that order, it is the first one.
pub record IsSettledBest (s : Site) (first cables : List Cable) (total : ℕ) : Type 0 where
  pub settled : IsSettled s cables
  pub is_best : IsIncumbent s cables total
  pub no_dearer : total ≤ cost s first
  pub same : ¬ (total < cost s first) → AreInOrder first → cables ≡ first

-- the claim that a cost is optimal, where the bound reaches it, or else of the gap between them
abbrev pub IsClaimedOf : ℕ → ℕ → Claim → Type 0
IsClaimedOf total bound claim = ((bound < total) × (claim ≡ Gap total bound)) ⊎ ((total ≤ bound) × (claim ≡ Optimal total))

-- the part to begin with, and the claim that says which turbine can't be joined to it, with this bound
abbrev pub IsPartPlan : Incumbent → ℕ → List Cable → Claim → Type 0
IsPartPlan (Known settled) bound cables claim = ⊥
IsPartPlan (Part part turbine) bound cables claim = (cables ≡ part) × (claim ≡ Partial bound turbine)

-- the layout to begin with, where there is one
abbrev pub layout_of : Incumbent → Option (List Cable)
layout_of (Known settled) = Some settled.layout
layout_of (Part part turbine) = None
