-- The rows of sets of turbines, as they are listed, and their weights.
use Rattle.std.specs.Prelude.{◌≡◌, ℕ, ◌+◌, ◌*◌, ◌^◌, ◌≤◌, ℤ, pos, List, [], ◌∷◌, ◌++◌, length, map, sum_by, All}
use Rattle.cable_definitions.specs.declared.cable.Arc.{Arc}
use Rattle.cable_definitions.specs.declared.row.RowKind.TheVariants.{Cut}
use Rattle.cable_definitions.specs.Site.{Site}
use Rattle.cable_definitions.specs.Row.{Row, IsWellFormed}
use Rattle.site_model.specs.Best.{most_cost}
use Rattle.intree_floor.specs.declared.weights.SetWeight.{SetWeight}
use Rattle.intree_floor.specs.Weights.{IsTurbineSet}

-- few rows are listed, so that there is room for the rows of sets
pub record HasRoom (rows : List Row) : Type 0 where
  pub rows_count : length rows ≤ 2048
  pub members_count : sum_by (λ r. length r.members) rows ≤ 2048

-- at most 511 well-formed rows are listed behind the old ones, with at most 131,072 members together
pub record ListsSets (s : Site) (arcs : List Arc) (old new : List Row) : Type 0 where
  pub rows : List Row
  pub listed : new ≡ old ++ rows
  pub well_formed : All (IsWellFormed s arcs) rows
  pub rows_count : length rows ≤ 511
  pub members_count : sum_by (λ r. length r.members) rows ≤ 131072

-- the row of a set
abbrev pub cut_row : List ℕ → Row
cut_row members = record { kind = Cut; members = members }

-- the rows of weighed sets
abbrev pub set_rows : List SetWeight → List Row
set_rows sets = map (λ w. cut_row w.members) sets

-- the weights of these rows, whose numbers begin at n
abbrev pub weights_of : ℕ → List SetWeight → List (ℕ × ℤ)
weights_of n [] = []
weights_of n (w ∷ sets) = (n, pos (2 ^ 20 * w.weight)) ∷ weights_of (n + 1) sets

-- at most 511 sets of turbines, each with a weight of at most what a cable costs
pub record AreSmallSets (s : Site) (sets : List SetWeight) : Type 0 where
  pub are_sets : All (λ w. IsTurbineSet s w.members) sets
  pub small : All (λ w. w.weight ≤ most_cost) sets
  pub few : length sets ≤ 511
