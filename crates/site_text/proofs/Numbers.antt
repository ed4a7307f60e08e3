-- Numbers of a site: their spelling is one word, and tells the number.
use Rattle.std.proofs.Common.{◌≡◌, ℕ, ◌^◌, ◌<◌, ℤ, pos, ◌≤ℤ◌, sym, arith}
use Rattle.std.specs.Prelude.{neg_ℤ}
use Rattle.std.proofs.lemmas.Int.{ints}
use Rattle.cable_definitions.specs.Coordinate.{IsCoordinate}
use Rattle.cable_definitions.specs.Text.{number}
use Rattle.cable_definitions.specs.Numeral.{spelling}
use Rattle.cable_text.proofs.Reading.{spelling-number}

-- far more than a number of a site
pub record IsSmall (z : ℤ) : Type 0 where
  pub least : neg_ℤ (pos (10 ^ 20)) ≤ℤ z
  pub most : z ≤ℤ pos (10 ^ 20)

-- a number of a site is spelled so
pub number_spelled : (z : ℤ) → IsSmall z → number z ≡ spelling z
number_spelled z s = sym (spelling-number z (omega (arith, ints)) (omega (arith, ints)))

-- a count is small
pub small_count : (n : ℕ) → n < 2 ^ 64 → IsSmall (pos n)
small_count n h = record { least = omega (arith, ints); most = omega (arith, ints) }

-- a coordinate is small
pub small_coordinate : (z : ℤ) → IsCoordinate z → IsSmall z
small_coordinate z c = record { least = omega (arith, ints); most = omega (arith, ints) }
