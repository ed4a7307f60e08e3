-- Rows, ceilings, budgets, the first rows of a search, and draws that compute.
use Rattle.std.proofs.Common.{◌≡◌, ℕ, [], ◌∷◌, pos, neg_ℤ, refl}
use Rattle.std.specs.Prelude.{map}
use Rattle.cable_definitions.specs.declared.row.RowKind.{RowKind}
use Rattle.cable_definitions.specs.declared.row.RowKind.TheVariants.{Out, Inlet, Cut}
use Rattle.cable_definitions.specs.Plane.{length_of, root_bits}
use Rattle.cable_definitions.specs.Walk.{most_steps}
use Rattle.cable_definitions.specs.Budget.{enough_budget}
use Rattle.cable_definitions.specs.Row.{Row, right, left, flow_of}
use Rattle.cable_definitions.specs.Tree.{ceiling}
use Rattle.cable_definitions.specs.Core.{first_rows}
use Rattle.cable_definitions.specs.Drill.{draw, state_after}
use Rattle.cable_definitions.proofs.Sites.{type_of, wide, fork, fork_of_strings, branched, fork_arcs, square}

-- one cable bears all three turbines of the fork, and two bear those of the square
pub cut_of_fork : right fork Cut (1 ∷ 2 ∷ 3 ∷ []) ≡ pos 1
cut_of_fork = refl

pub cut_of_square : right (square wide (type_of 200 1 0)) Cut (1 ∷ 2 ∷ 3 ∷ []) ≡ pos 2
cut_of_square = refl

-- one cable leaves the three turbines
pub cut_is_met : left (record { kind = Cut; members = 1 ∷ 2 ∷ 3 ∷ [] }) fork_arcs (map (flow_of fork branched) fork_arcs) ≡ pos 1
unfolding most_steps
cut_is_met = refl

-- one cable may end in a turbine of a string
pub inlet_of_string : right fork_of_strings Inlet (1 ∷ []) ≡ neg_ℤ (pos 1)
inlet_of_string = refl

pub ceiling_of_fork : ceiling fork fork_arcs ≡ 3864
unfolding length_of root_bits
ceiling_of_fork = refl

pub enough_for_fork : enough_budget fork_arcs ≡ 1023
enough_for_fork = refl

-- a row of one point
abbrev row : RowKind → ℕ → Row
row kind p = record { kind = kind; members = p ∷ [] }

pub first_rows_of_fork : first_rows fork ≡ row Out 1 ∷ row Out 2 ∷ row Out 3 ∷ row Inlet 0 ∷ row Inlet 1 ∷ row Inlet 2 ∷ row Inlet 3 ∷ []
first_rows_of_fork = refl

-- the first three draws from 7
pub first_draw : draw 401 7 ≡ 369
first_draw = refl

pub second_draw : draw 401 (state_after 1 7) ≡ 168
second_draw = refl

pub third_draw : draw 5 (state_after 2 7) ≡ 3
third_draw = refl
