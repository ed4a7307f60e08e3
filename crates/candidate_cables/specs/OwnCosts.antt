-- Costs of arcs at the power of their starts.
use Rattle.std.specs.Prelude.{◌≡◌, ℕ}
use Rattle.cable_definitions.specs.declared.cable.Arc.{Arc}
use Rattle.cable_definitions.specs.Site.{Site}
use Rattle.cable_definitions.specs.Arcs.{IsCheapest, power_of, cost_of}

-- the least cost of an arc over the types that bear the power of its start
pub record IsOwnCost (s : Site) (a : Arc) (cost : ℕ) : Type 0 where
  pub grade : ℕ
  pub cheapest : IsCheapest s a.from a.to (power_of s a.from) grade
  pub reached : cost ≡ cost_of s a.from a.to grade (power_of s a.from)
