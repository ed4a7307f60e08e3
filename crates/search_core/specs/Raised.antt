-- Weights that are raised in a node.
use Rattle.std.specs.Prelude.{◌≡◌, ℕ, ◌^◌, ◌≤◌, ℤ, ◌≤ℤ◌, List, length, nat_abs}
use Rattle.cable_definitions.specs.declared.cable.Arc.{Arc}
use Rattle.cable_definitions.specs.declared.row.Mark.{Mark}
use Rattle.cable_definitions.specs.Site.{Site}
use Rattle.cable_definitions.specs.Row.{Row}
use Rattle.cable_definitions.specs.Choice.{AreLawful, IsValue}
use Rattle.cable_definitions.specs.Core.{HasLift}
use Rattle.turbine_weights.specs.Turbines.{AreTurbineWeights}
use Rattle.search_core.specs.declared.worth.Worth.{Worth}

-- the weights are worth at least as much in the box of these marks as those of the nearest arcs
pub record BeatTurbines (s : Site) (arcs : List Arc) (rows : List Row) (marks : List Mark) (weights : List (ℕ × ℤ)) : Type 0 where
  pub turbines : List (ℕ × ℤ)
  pub are_turbines : AreTurbineWeights s arcs rows marks turbines
  pub low : ℤ
  pub is_low : IsValue s arcs rows marks turbines low
  pub at_least : (value : ℤ) → IsValue s arcs rows marks weights value → low ≤ℤ value

-- the weights are worth at least as much in the box of these marks, over the rows that stand after, as the last weights were over those that stood before
pub record BeatLast (s : Site) (arcs : List Arc) (before after : List Row) (marks : List Mark) (last weights : List (ℕ × ℤ)) : Type 0 where
  pub low : ℤ
  pub is_low : IsValue s arcs before marks last low
  pub at_least : (value : ℤ) → IsValue s arcs after marks weights value → low ≤ℤ value

-- lawful weights with their value in the box of these marks, under which no listed row has a lift, and a share of each arc
pub record IsRaised (s : Site) (arcs : List Arc) (rows : List Row) (marks : List Mark) (worth : Worth) : Type 0 where
  pub lawful : AreLawful rows worth.weights
  pub few : length worth.weights ≤ 1024
  pub no_lift : (r : ℕ) → ¬ (HasLift s arcs rows marks worth.weights r)
  pub is_value : IsValue s arcs rows marks worth.weights worth.value
  pub small : nat_abs worth.value ≤ 10 ^ 36
  pub one_share_each : length worth.shares ≡ length arcs
  pub beats : BeatTurbines s arcs rows marks worth.weights
