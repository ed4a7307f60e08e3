-- One cable for each turbine, and the best of the lists that were tried.
use Rattle.std.specs.Prelude.{◌≡◌, ℕ, ◌+◌, ◌≤◌, ◌<◌, List, [], ◌∷◌, ◌++◌, length, drop, AllPairs, Option, Some, None, nat_lt, if◌then◌else◌}
use Rattle.cable_definitions.specs.declared.cable.Cable.{Cable}
use Rattle.cable_definitions.specs.declared.site.Kind.{Kind}
use Rattle.cable_definitions.specs.declared.site.Kind.TheVariants.{Turbine, Substation, Bend}
use Rattle.cable_definitions.specs.declared.site.Point.{Point}
use Rattle.cable_definitions.specs.Site.{Site}
use Rattle.cable_definitions.specs.Layout.{IsLegal, cost}

-- a cable of the first type from p to q
abbrev pub cable_to : ℕ → ℕ → Cable
cable_to p q = record { from = p; to = q; grade = 0 }

-- such a cable from the turbine p to a point of the site, before the further cables
abbrev pub ChoiceAt : Site → ℕ → Kind → List Cable → (List Cable → Type 0) → Type 0
ChoiceAt s p (Turbine power) [] Further = ⊥
ChoiceAt s p (Turbine power) (c ∷ cables) Further = ((q : ℕ) × (q < length s.points) × (c ≡ cable_to p q)) × Further cables
ChoiceAt s p (Substation feeders power) cables Further = Further cables
ChoiceAt s p Bend cables Further = Further cables

-- one such cable for each turbine among these points, whose numbers begin at p, in order
abbrev pub IsOneEach : Site → ℕ → List Point → List Cable → Type 0
IsOneEach s p [] cables = cables ≡ []
IsOneEach s p (point ∷ points) cables = ChoiceAt s p point.kind cables (IsOneEach s (p + 1) points)

-- the cables, each of which starts in a greater point than the one before it
abbrev pub Ascends : List Cable → Type 0
Ascends cables = AllPairs (λ c d. c.from < d.from) cables

-- the list is these cables and then one for each turbine from p on
pub record Completes (s : Site) (chosen : List Cable) (p : ℕ) (cables : List Cable) : Type 0 where
  pub rest : List Cable
  pub choice : IsOneEach s p (drop p s.points) rest
  pub joined : cables ≡ chosen ++ rest

-- a legal layout in ascending order of start, with its cost, which no legal list of those that were tried undercuts
pub record IsBestOf (s : Site) (Tried : List Cable → Type 0) (layout : List Cable) (best_cost : ℕ) : Type 0 where
  pub legal : IsLegal s layout
  pub cost_is : best_cost ≡ cost s layout
  pub in_order : Ascends layout
  pub least : (cables : List Cable) → Tried cables → IsLegal s cables → best_cost ≤ cost s cables

-- such a layout, or none where no list that was tried is legal
abbrev pub IsBestTried : Site → (List Cable → Type 0) → Option (List Cable × ℕ) → Type 0
IsBestTried s Tried None = (cables : List Cable) → Tried cables → ¬ (IsLegal s cables)
IsBestTried s Tried (Some best) = IsBestOf s Tried best.0 best.1

-- the one that costs less, and of equal costs the first
abbrev pub cheaper : Option (List Cable × ℕ) → Option (List Cable × ℕ) → Option (List Cable × ℕ)
cheaper None found = found
cheaper (Some known) None = Some known
cheaper (Some known) (Some found) = if nat_lt found.1 known.1 then Some found else Some known

-- what judging the cables finds: a legal layout of them with its cost, or none where they aren't legal
abbrev pub IsJudgement : Site → List Cable → Option (List Cable × ℕ) → Type 0
IsJudgement s cables None = ¬ (IsLegal s cables)
IsJudgement s cables (Some found) = (found.0 ≡ cables) × IsLegal s cables × (found.1 ≡ cost s cables)
