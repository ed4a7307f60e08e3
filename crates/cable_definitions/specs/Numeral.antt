-- The one spelling of whole numbers of any size.
use Rattle.std.specs.Prelude.{ℕ, ℤ, pos, negsuc, ◌+◌, List, [], ◌∷◌, map, if◌then◌else◌, ◌==◌}
use Rattle.std.specs.Int.Digits.{digits_of}

-- the digits of a whole number as bytes, the highest first, and none for 0
unfoldable pub digit_bytes : ℕ → List ℕ
digit_bytes n = map (λ d. 48 + d) (digits_of 10 n)

-- the digits of a whole number from 0, with no 0 in front
unfoldable pub numeral : ℕ → List ℕ
numeral n = if n == 0 then 48 ∷ [] else digit_bytes n

-- the one spelling of a whole number
abbrev pub spelling : ℤ → List ℕ
spelling (pos n) = numeral n
spelling (negsuc n) = 45 ∷ numeral (n + 1)
