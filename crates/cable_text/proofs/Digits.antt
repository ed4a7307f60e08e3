-- The number of digits of a number.
use Rattle.std.proofs.Common.{◌≡◌, ℕ, ◌+◌, ◌/◌, ◌%◌, ◌^◌, ◌<◌, ◌≤◌, [], ◌∷◌, length, ap, arith, lit<}
use Rattle.std.specs.Fmt.{decimal}
use Rattle.std.proofs.lemmas.Fmt.{decimal_digit, decimal_step, length-decimal-le}
use Rattle.std.proofs.lemmas.List.{length-append}

-- a digit
pub one_digit : (n : ℕ) → n < 10 → length (decimal n) ≡ 1
one_digit n h = omega (arith, ap length (decimal_digit n h))

-- one digit more than a tenth has
pub digit_more : (n : ℕ) → 10 ≤ n → n < 2 ^ 64 → length (decimal n) ≡ length (decimal (n / 10)) + 1
digit_more n h k = omega (arith, ap length (decimal_step n h k), length-append (decimal (n / 10)) ((48 + n % 10) ∷ []))

-- at most 20 digits
pub few_digits : (n : ℕ) → n < 2 ^ 64 → length (decimal n) ≤ 20
few_digits n h = length-decimal-le 20 n (lit< tt) (below n h) h
  where
    below : (n : ℕ) → n < 2 ^ 64 → n < 10 ^ 20
    below n h = omega arith
