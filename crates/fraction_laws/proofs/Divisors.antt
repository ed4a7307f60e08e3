-- Euclid's steps find the greatest common divisor, and Euclid's lemma.
use Rattle.std.proofs.Common.{◌≡◌, ℕ, zero, suc, ◌+◌, ◌*◌, ◌/◌, ◌%◌, ◌<◌, ◌≤◌, refl, sym, subst, ap, arith}
use Rattle.std.specs.Int.{◌∣◌, IsGcd}
use Rattle.std.proofs.Math.Nat.{div-add-mod, mod-lt, dvd-add_iff_right, dvd-mul_right_of_dvd, dvd-mul_right, one-mul, eq-one_of_dvd-one}
use Rattle.std.proofs.lemmas.Nat.Gcd.{IsGcd-from_zero, same_from_IsGcd}
use Rattle.fraction_laws.specs.Divisor.{greatest_divisor, AreCoprime, IsGcd-greatest}

-- one step by any quotient, and back
module _ (x y q r g : ℕ) (e : x ≡ y * q + r) where
  IsGcd-from_quotient : IsGcd y r g → IsGcd x y g
  IsGcd-from_quotient h = (
    subst (λ n. g ∣ n) (sym e) ((dvd-add_iff_right g (dvd-mul_right_of_dvd g h.0 q)).0 h.1),
    h.0,
    λ d p s. h.2 d s ((dvd-add_iff_right d (dvd-mul_right_of_dvd d s q)).1 (subst (λ n. d ∣ n) e p)),
  )

  IsGcd-to_rest : IsGcd x y g → IsGcd y r g
  IsGcd-to_rest h = (
    h.1,
    (dvd-add_iff_right g (dvd-mul_right_of_dvd g h.1 q)).1 (subst (λ n. g ∣ n) e h.0),
    λ d p s. h.2 d (subst (λ n. d ∣ n) (sym e) ((dvd-add_iff_right d (dvd-mul_right_of_dvd d p q)).0 s)) p,
  )

scaled : (a b q r c : ℕ) → a ≡ b * q + r → a * c ≡ b * c * q + r * c
scaled a b q r c e =
    let f : a * c ≡ (b * q + r) * c = ap (λ n. n * c) e in
    omega arith

-- a common factor passes into the greatest divisor
IsGcd-times_by : (steps a b g c : ℕ) → b ≤ steps → IsGcd a b g → IsGcd (a * c) (b * c) (g * c)
IsGcd-times_by steps a zero g c h p =
    let e : g ≡ a = same_from_IsGcd a zero g a p (IsGcd-from_zero a zero refl) in
    subst (λ n. IsGcd (a * c) (zero * c) (n * c)) (sym e) (IsGcd-from_zero (a * c) (zero * c) (omega arith))
IsGcd-times_by zero a (suc b) g c h p = absurd (omega arith)
IsGcd-times_by (suc steps) a (suc b) g c h p =
    let below : a % suc b < suc b = mod-lt a (omega arith) in
    let e : a ≡ suc b * (a / suc b) + a % suc b = sym (div-add-mod a (suc b)) in
    IsGcd-from_quotient (a * c) (suc b * c) (a / suc b) (a % suc b * c) (g * c) (scaled a (suc b) (a / suc b) (a % suc b) c e)
    (IsGcd-times_by steps (suc b) (a % suc b) g c (omega arith) (IsGcd-to_rest a (suc b) (a / suc b) (a % suc b) g e p))

pub IsGcd-times : (a b g c : ℕ) → IsGcd a b g → IsGcd (a * c) (b * c) (g * c)
IsGcd-times a b g c h = IsGcd-times_by b a b g c (omega arith) h

-- numbers with no common divisor but 1 have 1 as the greatest
pub IsGcd-from_coprime : (a b : ℕ) → AreCoprime a b → IsGcd a b 1
IsGcd-from_coprime a b h =
    let p = IsGcd-greatest a b in
    subst (λ g. IsGcd a b g) (h.only_one (greatest_divisor a b) p.0 p.1) p

pub AreCoprime-from_gcd : (a b : ℕ) → IsGcd a b 1 → AreCoprime a b
AreCoprime-from_gcd a b h = record { only_one = λ k p q. eq-one_of_dvd-one (h.2 k p q) }

-- Euclid's lemma: what divides a product and has no divisor in common with one factor divides the other
pub divides_other : (a b c : ℕ) → AreCoprime a b → a ∣ b * c → a ∣ c
divides_other a b c h p =
    let g : IsGcd (a * c) (b * c) (1 * c) = IsGcd-times a b 1 c (IsGcd-from_coprime a b h) in
    subst (λ n. a ∣ n) (one-mul c) (g.2 a (dvd-mul_right a c) p)
