-- No length exceeds 2,828,428.
use Rattle.std.proofs.Common.{◌≡◌, ℕ, zero, suc, ◌+◌, ◌*◌, ◌^◌, ◌<◌, ◌≤◌, Bool, true, false, cond, ltb, Option, Some, None, arith, refl}
use Rattle.std.proofs.lemmas.Bool.Decides.{nat_tests}
use Rattle.cable_definitions.specs.declared.place.Place.{Place}
use Rattle.cable_definitions.specs.declared.site.Point.{Point}
use Rattle.cable_definitions.specs.Plane.{root_below, root_bits, length_of, square_distance}
use Rattle.cable_definitions.specs.Arcs.{length_between}
use Rattle.cable_definitions.proofs.Distances.{root_least, distance_small}

-- the root that is computed has a square below the number
root_low : (bits n root : ℕ) → root * root < n → root_below bits n root * root_below bits n root < n
root_low zero n root h = h
root_low (suc bits) n root h = by_test (ltb ((root + 2 ^ bits) * (root + 2 ^ bits)) n) refl (λ e. root_low bits n (root + 2 ^ bits) (below_from _ _ e)) (root_low bits n root h)
  where
    by_test : (b : Bool) → ltb ((root + 2 ^ bits) * (root + 2 ^ bits)) n ≡ b
        → (ltb ((root + 2 ^ bits) * (root + 2 ^ bits)) n ≡ true → root_below bits n (root + 2 ^ bits) * root_below bits n (root + 2 ^ bits) < n)
        → root_below bits n root * root_below bits n root < n
        → root_below bits n (cond b (root + 2 ^ bits) root) * root_below bits n (cond b (root + 2 ^ bits) root) < n
    by_test true e f g = f e
    by_test false e f g = g

    below_from : (a b : ℕ) → ltb a b ≡ true → a < b
    below_from a b e = grind (arith, nat_tests)

-- a root whose square is below a small number is small
root_small : (r n : ℕ) → r * r < n → n ≤ 8000000000000 → r + 1 ≤ 2828428
root_small r n h k = root_least r 2828428 n h (omega (arith, k))

-- the length that is computed
by_zero : (bits n : ℕ) → n ≤ 8000000000000 → (t : Bool) → ltb 0 n ≡ t → cond t (root_below bits n 0 + 1) 0 ≤ 2828428
by_zero bits n h true e = root_small (root_below bits n 0) n (root_low bits n 0 (some n e)) h
  where
    some : (n : ℕ) → ltb 0 n ≡ true → 0 * 0 < n
    some n e = grind (arith, nat_tests)
by_zero bits n h false e = omega arith

length_small : (a b : Place) → length_of a b ≤ 2828428
unfolding length_of
length_small a b = by_zero root_bits (square_distance a b) (distance_small a b) (ltb 0 (square_distance a b)) refl

-- between two points
pub length_between_small : (p q : Option Point) → length_between p q ≤ 2828428
length_between_small None q = omega arith
length_between_small (Some p) None = omega arith
length_between_small (Some p) (Some q) = length_small p.at q.at
