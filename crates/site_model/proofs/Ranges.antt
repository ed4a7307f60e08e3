-- Numbers out of range, as the calls of a builder find them.
use Rattle.std.proofs.Common.{◌≡◌, ℕ, ◌<◌, ℤ, ◌≤ℤ◌, ◌<ℤ◌, List, length, get_or, Some, refl, subst, arith, to_z, of_z, FitsSigned}
use Rattle.std.specs.Prelude.{All}
use Rattle.std.specs.Int.{w128}
use Rattle.std.proofs.lemmas.Int.{ints, to_z-of_z}
use Rattle.cable_definitions.specs.Items.{Field, within, IsWithin}

-- a number below its range
pub IsWithin-below : (z least most : ℤ) → z <ℤ least → ¬ (IsWithin (within (Some z) least most))
IsWithin-below z least most below h = let lower = (h z refl).0 in omega (arith, ints)

-- a number above its range
pub IsWithin-above : (z least most : ℤ) → most <ℤ z → ¬ (IsWithin (within (Some z) least most))
IsWithin-above z least most above h = let upper = (h z refl).1 in omega (arith, ints)

-- a number that is written is within its range
pub IsWithin-some : (z least most : ℤ) → least ≤ℤ z → z ≤ℤ most → IsWithin (within (Some z) least most)
IsWithin-some z least most lower upper w e = let same : z ≡ w = cc in (subst (λ (v : ℤ). least ≤ℤ v) same lower, subst (λ (v : ℤ). v ≤ℤ most) same upper)

-- a list of numbers of which the one at this place was passed to a call and was found out of range there
pub All-IsWithin-not : (fields : List Field) (k : ℕ) (z least most : ℤ) → k < length fields → get_or fields k (within (Some z) least most) ≡ within (Some z) least most → FitsSigned w128 z → ¬ (IsWithin (within (Some (to_z w128 (of_z w128 z))) least most)) → ¬ (All IsWithin fields)
All-IsWithin-not fields k z least most l e fits out all =
    let within_it : IsWithin (within (Some z) least most) = subst IsWithin e (all k (within (Some z) least most) l) in
    let outside : ¬ (IsWithin (within (Some z) least most)) = rw to_z-of_z at out in
    outside within_it

-- a fact of a number that was passed to a call is one of the number
pub passed : (P : ℤ → Type 0) (z : ℤ) → FitsSigned w128 z → P (to_z w128 (of_z w128 z)) → P z
passed P z fits h = subst P (to_z-of_z w128 z fits) h

-- the same for two numbers
pub passed_two : (P : ℤ → ℤ → Type 0) (x y : ℤ) → FitsSigned w128 x → FitsSigned w128 y → P (to_z w128 (of_z w128 x)) (to_z w128 (of_z w128 y)) → P x y
passed_two P x y fits_x fits_y h = passed (λ v. P x v) y fits_y (passed (λ v. P v (to_z w128 (of_z w128 y))) x fits_x h)
