-- How far apart two places are at most, and least roots, for callers.
use Rattle.std.proofs.Common.{ℕ, ◌+◌, ◌*◌, ◌<◌, ◌≤◌, arith}
use Rattle.std.specs.Prelude.{unsigned_abs, ◌-ℤ◌, ℤ}
use Rattle.std.proofs.lemmas.Nat.{mul-le}
use Rattle.std.proofs.lemmas.Int.{ints}
use Rattle.cable_definitions.specs.declared.place.Place.{Place}
use Rattle.cable_definitions.specs.Coordinate.{IsCoordinate}
use Rattle.cable_definitions.specs.Plane.{square_distance}

-- a number whose square is below one that another's square reaches is below the other
pub root_least : (r l n : ℕ) → r * r < n → n ≤ l * l → r + 1 ≤ l
root_least r l n h k = grind (arith, mul-le)

-- two coordinates are at most 2,000,000 apart
step_small : (a b : ℤ) → IsCoordinate a → IsCoordinate b → unsigned_abs (b -ℤ a) ≤ 2000000
step_small a b h k = omega (arith, ints)

-- the square of the distance of two places is at most twice the square of that
pub distance_small : (a b : Place) → square_distance a b ≤ 8000000000000
distance_small a b =
    let m = step_small a.x b.x a.x_in_range b.x_in_range in
    let n = step_small a.y b.y a.y_in_range b.y_in_range in
    omega (arith, mul-le (unsigned_abs (b.x -ℤ a.x)) (unsigned_abs (b.x -ℤ a.x)) 2000000 2000000 m m, mul-le (unsigned_abs (b.y -ℤ a.y)) (unsigned_abs (b.y -ℤ a.y)) 2000000 2000000 n n)
