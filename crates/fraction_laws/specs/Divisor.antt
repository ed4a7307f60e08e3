-- The greatest common divisor of two natural numbers, and numbers with no common divisor but 1.
use Rattle.std.specs.Prelude.{◌≡◌, ℕ, ◌%◌, ◌<◌, ◌≤◌, refl}
use Rattle.std.specs.Int.{◌∣◌, IsGcd}
use Rattle.std.proofs.Common.{zero, suc, arith}
use Rattle.std.proofs.Math.Nat.{mod-lt}
use Rattle.std.proofs.lemmas.Nat.Gcd.{IsGcd-from_zero, IsGcd-from_mod}

-- Euclid's steps: the divisor and the remainder take the place of both numbers, until there is no remainder
unfoldable pub divisor_by : ℕ → ℕ → ℕ → ℕ
divisor_by steps a zero = a
divisor_by zero a (suc b) = a
divisor_by (suc steps) a (suc b) = divisor_by steps (suc b) (a % suc b)

-- the greatest number that divides both
unfoldable pub greatest_divisor : ℕ → ℕ → ℕ
greatest_divisor a b = divisor_by b a b

-- no number but 1 divides both
pub record AreCoprime (a b : ℕ) : Type 0 where
  pub only_one : (k : ℕ) → k ∣ a → k ∣ b → k ≡ 1

-- Euclid's steps come to an end within b of them
IsGcd-by : (steps a b : ℕ) → b ≤ steps → IsGcd a b (divisor_by steps a b)
unfolding divisor_by
IsGcd-by steps a zero h = IsGcd-from_zero a zero refl
IsGcd-by zero a (suc b) h = absurd (omega arith)
IsGcd-by (suc steps) a (suc b) h =
    let below : a % suc b < suc b = mod-lt a (omega arith) in
    IsGcd-from_mod a (suc b) _ (IsGcd-by steps (suc b) (a % suc b) (omega arith))

-- the greatest divisor divides both, and whatever divides both divides it
pub IsGcd-greatest : (a b : ℕ) → IsGcd a b (greatest_divisor a b)
unfolding greatest_divisor
IsGcd-greatest a b = IsGcd-by b a b (omega arith)
