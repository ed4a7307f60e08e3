-- Lengths, walks, loads and costs that compute.
use Rattle.std.proofs.Common.{◌≡◌, [], ◌∷◌, refl}
use Rattle.std.specs.Prelude.{Some}
use Rattle.cable_definitions.specs.declared.site.Kind.TheVariants.{Substation}
use Rattle.cable_definitions.specs.declared.site.PairRule.TheVariants.{Closed}
use Rattle.cable_definitions.specs.Plane.{length_of, root_bits}
use Rattle.cable_definitions.specs.Arcs.{charge_of, rule_of}
use Rattle.cable_definitions.specs.Walk.{load, load_into, most_steps, walk_end}
use Rattle.cable_definitions.specs.Layout.{cost}
use Rattle.cable_definitions.specs.Rings.{ring_cost}
use Rattle.cable_definitions.proofs.Sites.{origin, one_one, north, west_up, beside_block, least_corner, greatest_corner, cable, type_of, two_points, in_a_row, crossing, around, fork, fork_of_strings, fork_with_losses, branched, stringed, square, wide_apart}

-- ---- lengths are rounded up
pub diagonal : length_of origin one_one ≡ 2
unfolding length_of root_bits
diagonal = refl

pub no_length : length_of north north ≡ 0
unfolding length_of root_bits
no_length = refl

pub greatest_length : length_of greatest_corner least_corner ≡ 2828428
unfolding length_of root_bits
greatest_length = refl

pub to_the_bend : length_of north beside_block ≡ 539
unfolding length_of root_bits
to_the_bend = refl

pub from_the_bend : length_of beside_block origin ≡ 539
unfolding length_of root_bits
from_the_bend = refl

pub straight_past_the_fork : length_of origin west_up ≡ 1432
unfolding length_of root_bits
straight_past_the_fork = refl

-- ---- a length of 500 at the price 100
pub cost_of_one_cable : cost two_points (cable 1 0 0 ∷ []) ≡ 50000
unfolding most_steps length_of root_bits
cost_of_one_cable = refl

-- ---- a thin cable behind a thick one
pub load_of_thick : load (in_a_row (type_of 100 1 0 ∷ type_of 200 3 0 ∷ [])) (cable 1 0 1 ∷ cable 2 1 0 ∷ []) 1 ≡ 200
unfolding most_steps
load_of_thick = refl

pub cost_of_row : cost (in_a_row (type_of 100 1 0 ∷ type_of 200 3 0 ∷ [])) (cable 1 0 1 ∷ cable 2 1 0 ∷ []) ≡ 4000
unfolding most_steps length_of root_bits
cost_of_row = refl

-- ---- one turbine behind another, past the crossing
pub cost_past_crossing : cost crossing (cable 2 3 0 ∷ cable 3 0 0 ∷ []) ≡ 2415
unfolding most_steps length_of root_bits
cost_past_crossing = refl

-- ---- around a block by a bend: the load goes through the bend, and the charge counts in either direction
pub load_of_bend : load around (cable 1 2 0 ∷ cable 2 0 0 ∷ []) 2 ≡ 100
unfolding most_steps
load_of_bend = refl

pub cost_around : cost around (cable 1 2 0 ∷ cable 2 0 0 ∷ []) ≡ 1085
unfolding most_steps length_of root_bits
cost_around = refl

pub charge_either_way : charge_of around 1 2 ≡ charge_of around 2 1
charge_either_way = refl

pub closed_either_way : rule_of around 1 0 ≡ Some Closed
closed_either_way = refl

-- ---- two turbines that join in the one before them, and a string of the three
pub load_of_branched : load fork branched 1 ≡ 300
unfolding most_steps
load_of_branched = refl

pub end_of_branched : walk_end most_steps branched 3 ≡ 0
unfolding most_steps
end_of_branched = refl

pub cost_of_branched : cost fork branched ≡ 2000
unfolding most_steps length_of root_bits
cost_of_branched = refl

pub load_of_stringed : load fork_of_strings stringed 1 ≡ 300
unfolding most_steps
load_of_stringed = refl

pub cost_of_stringed : cost fork_of_strings stringed ≡ 2100
unfolding most_steps length_of root_bits
cost_of_stringed = refl

-- a ring adds the closing cable
pub cost_of_ring : ring_cost fork_of_strings stringed (cable 3 0 0 ∷ []) ≡ 3532
unfolding most_steps length_of root_bits
cost_of_ring = refl

-- ---- a cycle: each turbine counts once in a load, and the walk ends nowhere
pub load_of_cycle : load fork (cable 1 2 0 ∷ cable 2 1 0 ∷ []) 1 ≡ 200
unfolding most_steps
load_of_cycle = refl

-- ---- all loads into a substation
pub power_of_square : load_into (square (Substation 4 250) (type_of 400 1 0)) (cable 1 0 0 ∷ cable 2 0 0 ∷ cable 3 1 0 ∷ []) 0 ≡ 300
unfolding most_steps
power_of_square = refl

-- ---- losses go by the square of the load
pub cost_of_straight_losses : cost fork_with_losses (cable 1 0 0 ∷ cable 2 0 0 ∷ cable 3 0 0 ∷ []) ≡ 38640000
unfolding most_steps length_of root_bits
cost_of_straight_losses = refl

pub cost_of_joined_losses : cost fork_with_losses (cable 1 0 0 ∷ cable 2 0 0 ∷ cable 3 1 0 ∷ []) ≡ 59320000
unfolding most_steps length_of root_bits
cost_of_joined_losses = refl

pub dearest_cable : cost wide_apart (cable 1 0 0 ∷ []) ≡ 285671228000000
unfolding most_steps length_of root_bits
dearest_cable = refl
