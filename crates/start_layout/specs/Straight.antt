-- Straight cables, substation by substation, and the straight layout, turbine by turbine.
use Rattle.std.specs.Prelude.{◌≡◌, ℕ, ◌<◌, ◌≤◌, ◌⊎◌, IsTrue, Option, None, Some}
use Rattle.cable_definitions.specs.declared.cable.Cable.{Cable}
use Rattle.cable_definitions.specs.Site.{Site}
use Rattle.cable_definitions.specs.Arcs.{IsCandidate, kind_of, is_substation, power_of, cost_of, Bears}

-- a candidate arc to a substation, and a type that bears the start's own power
pub record IsWayIn (s : Site) (p q grade : ℕ) : Type 0 where
  pub candidate : IsCandidate s p q
  pub to_substation : IsTrue (is_substation (kind_of s q))
  pub bears : Bears s grade (power_of s p)

-- a cable that is one, and what it costs at its start's own power
pub record IsPriced (s : Site) (p : ℕ) (c : Cable) (price : ℕ) : Type 0 where
  pub from : c.from ≡ p
  pub way : IsWayIn s p c.to c.grade
  pub price_is : price ≡ cost_of s p c.to c.grade (power_of s p)

-- this cost is lower, or as low, and then this end comes first, and then this type
abbrev pub Beats : Site → ℕ → Cable → ℕ → ℕ → ℕ → Type 0
Beats s p c price q grade = (price < cost_of s p q grade (power_of s p))
    ⊎ ((price ≡ cost_of s p q grade (power_of s p)) × ((c.to < q) ⊎ ((c.to ≡ q) × (c.grade ≤ grade))))

-- the cheapest cable from p to q, or none where there is none
pub record IsLeastTo (s : Site) (p q : ℕ) (c : Cable) (price : ℕ) : Type 0 where
  pub priced : IsPriced s p c price
  pub to : c.to ≡ q
  pub least : (grade : ℕ) → IsWayIn s p q grade → Beats s p c price q grade

abbrev pub IsBestTo : Site → ℕ → ℕ → Option (Cable × ℕ) → Type 0
IsBestTo s p q None = (grade : ℕ) → ¬ (IsWayIn s p q grade)
IsBestTo s p q (Some (c, price)) = IsLeastTo s p q c price

-- the cheapest cable from p to a point below n, or none where there is none
pub record IsLeastWayBelow (s : Site) (p n : ℕ) (c : Cable) (price : ℕ) : Type 0 where
  pub priced : IsPriced s p c price
  pub below : c.to < n
  pub least : (q grade : ℕ) → q < n → IsWayIn s p q grade → Beats s p c price q grade

abbrev pub IsBestWayBelow : Site → ℕ → ℕ → Option (Cable × ℕ) → Type 0
IsBestWayBelow s p n None = (q grade : ℕ) → q < n → ¬ (IsWayIn s p q grade)
IsBestWayBelow s p n (Some (c, price)) = IsLeastWayBelow s p n c price
