-- Segments that touch, pass and clash, and points beside, on and in a polygon.
use Rattle.std.proofs.Common.{◌≡◌, ◌⊎◌, inl, inr, refl, arith}
use Rattle.std.specs.Prelude.{count_by, pos, neg_ℤ}
use Rattle.std.proofs.lemmas.Int.{ints}
use Rattle.cable_definitions.specs.Plane.{orient, counts_for, edges, Meet, IsOn, IsEnd, Clash, IsOutside}
use Rattle.cable_definitions.specs.Layout.{SamePair, PairsClash}
use Rattle.cable_definitions.proofs.Sites.{origin, north, east, far_east, north_east, close_to_block, south_east_corner, north_east_corner, beside_block, on_block, in_block, block, crossing}

-- which side of the way from the origin to the east a place is on
pub left_side : orient origin east north ≡ pos 1000000
unfolding orient
left_side = refl

pub right_side : orient east origin north ≡ neg_ℤ (pos 1000000)
unfolding orient
right_side = refl

pub in_line : orient origin east far_east ≡ pos 0
unfolding orient
in_line = refl

-- the place in the middle lies on the way from the origin to the one behind it
pub passes_over : IsOn east far_east origin
passes_over = record { parts = 2; s = 0; t = 1; common = record { some_parts = omega arith; on_first = omega arith; on_second = omega arith; same_x = refl; same_y = refl } }

-- a cable that passes close to the block touches its corner
pub touches_corner : Meet north close_to_block south_east_corner north_east_corner
touches_corner = record { parts = 5; s = 4; t = 5; common = record { some_parts = omega arith; on_first = omega arith; on_second = omega arith; same_x = refl; same_y = refl } }

-- beside the block no edge counts, and in it one does
pub beside_is_even : count_by (counts_for beside_block) (edges block) ≡ 0
unfolding orient
beside_is_even = refl

pub within_is_odd : count_by (counts_for in_block) (edges block) ≡ 1
unfolding orient
within_is_odd = refl

-- so a place in it isn't outside
pub within_is_inside : ¬ (IsOutside in_block block)
unfolding orient
within_is_inside o = absurd (omega (arith, o.even))

-- nor is one on an edge
pub on_edge : IsOn on_block south_east_corner north_east_corner
on_edge = record { parts = 2; s = 0; t = 1; common = record { some_parts = omega arith; on_first = omega arith; on_second = omega arith; same_x = refl; same_y = refl } }

pub edge_is_inside : ¬ (IsOutside on_block block)
edge_is_inside o = o.on_no_edge 2 (north, north) (omega arith) on_edge

-- ---- the diagonals of a square clash in its middle
-- the middle is no end of the first
middle_is_no_end : IsEnd north east north 2 1 ⊎ IsEnd north east east 2 1 → ⊥
middle_is_no_end (inl e) = absurd (omega (arith, ints, e.x))
middle_is_no_end (inr e) = absurd (omega (arith, ints, e.x))

pub diagonals_clash : Clash north east north_east origin
diagonals_clash = record {
  parts = 2;
  s = 1;
  t = 1;
  common = record { some_parts = omega arith; on_first = omega arith; on_second = omega arith; same_x = refl; same_y = refl };
  no_end_of_both = λ h. middle_is_no_end h.0;
}

-- a cable that ends inside another clashes with it
end_is_no_end : IsEnd origin far_east origin 2 1 ⊎ IsEnd origin far_east far_east 2 1 → ⊥
end_is_no_end (inl e) = absurd (omega (arith, ints, e.x))
end_is_no_end (inr e) = absurd (omega (arith, ints, e.x))

pub end_inside_clashes : Clash origin far_east east north
end_inside_clashes = record {
  parts = 2;
  s = 1;
  t = 0;
  common = record { some_parts = omega arith; on_first = omega arith; on_second = omega arith; same_x = refl; same_y = refl };
  no_end_of_both = λ h. end_is_no_end h.0;
}

-- so two cables across clash
not_one_pair : SamePair 2 1 3 0 → ⊥
not_one_pair (inl e) = absurd (omega (arith, e.0))
not_one_pair (inr e) = absurd (omega (arith, e.0))

pub cables_clash : PairsClash crossing 2 1 3 0
cables_clash = record { different = not_one_pair; from = _; to = _; other_from = _; other_to = _; from_is = refl; to_is = refl; other_from_is = refl; other_to_is = refl; clash = diagonals_clash }
