-- The cheapest type at a load.
use Rattle.std.specs.Prelude.{◌≡◌, ◌⊎◌, ℕ}
use Rattle.cable_definitions.specs.Site.{Site}
use Rattle.cable_definitions.specs.Arcs.{Bears, IsCheapest}

-- the cheapest type that bears the load, or type 0 where none does
abbrev pub IsCheapestOrZero : Site → ℕ → ℕ → ℕ → ℕ → Type 0
IsCheapestOrZero s from to load grade = IsCheapest s from to load grade ⊎ (((other : ℕ) → ¬ (Bears s other load)) × (grade ≡ 0))
