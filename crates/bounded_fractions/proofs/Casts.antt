-- Signed numbers that fit come back from their bits.
use Rattle.std.proofs.Common.{◌≡◌, ℕ, ◌^◌, ◌<◌, ◌≤◌, sym, ap, ◌∙◌, subst, arith, ℤ, pos, negsuc, ◌+ℤ◌, ◌*ℤ◌, ◌≤ℤ◌, w64, to_z, of_z}
use Rattle.std.specs.Prelude.{unsigned_abs}
use Rattle.std.specs.Int.{w128, ◌∣◌}
use Rattle.std.specs.Int.RustNames.{int_div}
use Rattle.std.proofs.lemmas.Int.{ints, to_z-of_z, fits_signed_from_abs, unsigned_abs-mul}
use Rattle.std.proofs.lemmas.Nat.{mul-le}
use Rattle.std.proofs.lemmas.Nat.Gcd.{le_of_dvd}
use Rattle.std.proofs.Math.Nat.{div-le_self, pos_of_dvd_of_pos}
use Rattle.fraction_laws.specs.Reduced.{abs-quotient}

pub back64 : (z : ℤ) → unsigned_abs z < 2 ^ 63 → to_z w64 (of_z w64 z) ≡ z
back64 z h = to_z-of_z w64 z (fits_signed_from_abs w64 z h)

pub back128 : (z : ℤ) → unsigned_abs z < 2 ^ 127 → to_z w128 (of_z w128 z) ≡ z
back128 z h = to_z-of_z w128 z (fits_signed_from_abs w128 z h)

-- a product of two numbers in range
pub mul-abs : (x y : ℤ) → unsigned_abs x ≤ 2 ^ 62 → unsigned_abs y ≤ 2 ^ 62 → unsigned_abs (x *ℤ y) ≤ 2 ^ 124
mul-abs x y h k = subst (λ n. n ≤ 2 ^ 124) (sym (unsigned_abs-mul x y)) (mul-le (unsigned_abs x) (unsigned_abs y) (2 ^ 62) (2 ^ 62) h k)

pub mul_back : (x y : ℤ) → unsigned_abs x ≤ 2 ^ 62 → unsigned_abs y ≤ 2 ^ 62
    → to_z w128 (of_z w128 (to_z w128 (of_z w128 x) *ℤ to_z w128 (of_z w128 y))) ≡ x *ℤ y
mul_back x y h k =
    ap (λ z. to_z w128 (of_z w128 (z *ℤ to_z w128 (of_z w128 y)))) (back128 x (omega arith))
    ∙ ap (λ z. to_z w128 (of_z w128 (x *ℤ z))) (back128 y (omega arith))
    ∙ back128 (x *ℤ y) (omega (arith, mul-abs x y h k))

-- a sum of two such products
pub add-abs : (x y : ℤ) → unsigned_abs x ≤ 2 ^ 124 → unsigned_abs y ≤ 2 ^ 124 → unsigned_abs (x +ℤ y) ≤ 2 ^ 125
add-abs x y h k = omega (arith, ints)

pub add_back : (x y : ℤ) → unsigned_abs x ≤ 2 ^ 124 → unsigned_abs y ≤ 2 ^ 124
    → to_z w128 (of_z w128 (to_z w128 (of_z w128 x) +ℤ to_z w128 (of_z w128 y))) ≡ x +ℤ y
add_back x y h k =
    ap (λ z. to_z w128 (of_z w128 (z +ℤ to_z w128 (of_z w128 y)))) (back128 x (omega arith))
    ∙ ap (λ z. to_z w128 (of_z w128 (x +ℤ z))) (back128 y (omega arith))
    ∙ back128 (x +ℤ y) (omega (arith, add-abs x y h k))

-- a quotient
pub quotient-abs : (n : ℤ) (g : ℕ) → unsigned_abs (int_div n (pos g)) ≤ unsigned_abs n
quotient-abs n g = subst (λ k. k ≤ unsigned_abs n) (sym (abs-quotient n g)) (div-le_self (unsigned_abs n) g)

pub quotient_back : (n d : ℤ) (g : ℕ) → unsigned_abs n ≤ 2 ^ 125 → d ≡ pos g → g < 2 ^ 64
    → to_z w128 (of_z w128 (int_div n (to_z w128 (of_z w128 d)))) ≡ int_div n (pos g)
quotient_back n d g h e k =
    ap (λ z. to_z w128 (of_z w128 (int_div n (to_z w128 (of_z w128 z))))) e
    ∙ ap (λ z. to_z w128 (of_z w128 (int_div n z))) (back128 (pos g) (omega arith))
    ∙ back128 (int_div n (pos g)) (omega (arith, quotient-abs n g))

-- a divisor of a denominator
pub divisor-some : (g d : ℕ) (z : ℤ) → g ∣ d → d ≡ unsigned_abs z → pos 1 ≤ℤ z → 1 ≤ g
divisor-some g d z h e some = pos_of_dvd_of_pos h (from_sign z d e some)
  where
    from_sign : (z : ℤ) (d : ℕ) → d ≡ unsigned_abs z → pos 1 ≤ℤ z → 1 ≤ d
    from_sign (pos n) d e some = omega (arith, ints)
    from_sign (negsuc n) d e some = omega arith

pub divisor-no_more : (g d : ℕ) (z : ℤ) → g ∣ d → d ≡ unsigned_abs z → pos 1 ≤ℤ z → unsigned_abs z ≤ 2 ^ 62 → g ≤ 2 ^ 62
divisor-no_more g d z h e some within = subst_le (le_of_dvd (from_sign z d e some) h)
  where
    from_sign : (z : ℤ) (d : ℕ) → d ≡ unsigned_abs z → pos 1 ≤ℤ z → 1 ≤ d
    from_sign (pos n) d e some = omega (arith, ints)
    from_sign (negsuc n) d e some = omega arith

    subst_le : g ≤ d → g ≤ 2 ^ 62
    subst_le k = omega arith
