-- The cheapest types and arcs among those that were looked at.
use Rattle.std.specs.Prelude.{◌≡◌, ℕ, ◌+◌, ◌*◌, ◌≤◌, ◌<◌, ◌⊎◌, min, Option, Some, None}
use Rattle.cable_definitions.specs.declared.site.Kind.{Kind}
use Rattle.cable_definitions.specs.declared.site.Kind.TheVariants.{Turbine, Substation, Bend}
use Rattle.cable_definitions.specs.Site.{Site}
use Rattle.cable_definitions.specs.Arcs.{IsCandidate, Bears, cost_of, power_of}
use Rattle.cable_definitions.specs.Budget.{IsLeastOut}

-- What a cable costs at most: the greatest length at the greatest price, with the greatest loss at the greatest load, and the greatest charge.
abbrev pub most_cost : ℕ
most_cost = 2828428 * (1000000 + 100 * 10000 * 10000) + 1000000000000

-- type number best bears the load at this cost, the least one among the types below the bound that bear it, and of these it has the least number
pub record IsCheapestBelow (s : Site) (from to load bound best best_cost : ℕ) : Type 0 where
  pub below : best < bound
  pub bears : Bears s best load
  pub cost : best_cost ≡ cost_of s from to best load
  pub least : (other : ℕ) → other < bound → Bears s other load → (best_cost < cost_of s from to other load) ⊎ ((best_cost ≡ cost_of s from to other load) × (best ≤ other))

-- the best among the types below the bound, or none where none of them bears the load
abbrev pub IsBestBelow : Site → ℕ → ℕ → ℕ → ℕ → Option (ℕ × ℕ) → Type 0
IsBestBelow s from to load bound None = (other : ℕ) → other < bound → ¬ (Bears s other load)
IsBestBelow s from to load bound (Some best) = IsCheapestBelow s from to load bound best.0 best.1

-- the least cost of a candidate arc from p to a point below the bound, at p's own power
pub record IsLeastOutBelow (s : Site) (p bound cost : ℕ) : Type 0 where
  pub to : ℕ
  pub grade : ℕ
  pub candidate : IsCandidate s p to
  pub bears : Bears s grade (power_of s p)
  pub reached : cost ≡ cost_of s p to grade (power_of s p)
  pub least : (q other : ℕ) → q < bound → IsCandidate s p q → Bears s other (power_of s p) → cost ≤ cost_of s p q other (power_of s p)

-- that cost, or none where there is no candidate arc from p to a point below the bound
abbrev pub IsLeastBelow : Site → ℕ → ℕ → Option ℕ → Type 0
IsLeastBelow s p bound None = (q : ℕ) → q < bound → ¬ (IsCandidate s p q)
IsLeastBelow s p bound (Some cost) = IsLeastOutBelow s p bound cost

-- the lesser of two costs, of which the first may be missing
abbrev pub least_with : Option ℕ → ℕ → ℕ
least_with None cost = cost
least_with (Some least) cost = min least cost

-- what point p adds to the sum of the least costs out of the turbines
abbrev pub IsShare : Site → ℕ → ℕ → Kind → Type 0
IsShare s p cost (Turbine power) = IsLeastOut s p cost
IsShare s p cost (Substation feeders power) = cost ≡ 0
IsShare s p cost Bend = cost ≡ 0
