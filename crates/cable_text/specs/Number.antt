-- Words that spell whole numbers, and what reading makes of them.
use Rattle.std.specs.Prelude.{◌≡◌, ◌≢◌, ℕ, ◌+◌, ◌<◌, ◌≤◌, ◌-◌, ◌*◌, ◌⊎◌, ℤ, pos, negsuc, ◌<ℤ◌, List, [], ◌∷◌, length, slice_index, EachIndex, ◌^◌}
use Rattle.cable_definitions.specs.Numeral.{spelling}
use Rattle.cable_text.specs.declared.number.Spelled.{Spelled}
use Rattle.cable_text.specs.declared.number.Spelled.TheVariants.{Value, Beyond, Nothing}

-- the number lies outside the two ends
abbrev pub LiesOutside : ℤ → ℤ → ℤ → Type 0
LiesOutside least most z = (z <ℤ least) ⊎ (most <ℤ z)

-- `0` to `9`
abbrev pub IsDigit : ℕ → Type 0
IsDigit b = (48 ≤ b) × (b ≤ 57)

-- a lone `0`, or digits that begin with another
pub record IsNumeral (bytes : List ℕ) : Type 0 where
  pub not_empty : 0 < length bytes
  pub digits : EachIndex bytes (λ k. IsDigit (slice_index bytes k))
  pub no_zero_first : slice_index bytes 0 ≡ 48 → length bytes ≡ 1

-- the number that digits write after those of n
abbrev pub value_after : ℕ → List ℕ → ℕ
value_after n [] = n
value_after n (b ∷ bytes) = value_after (n * 10 + (b - 48)) bytes

-- what a word spells: a number of 128 bits, one beyond these, or none
abbrev pub IsSpelling : List ℕ → Spelled → Type 0
IsSpelling word (Value z) = word ≡ spelling z
IsSpelling word Beyond = (z : ℤ) × (word ≡ spelling z) × LiesOutside (negsuc (2 ^ 127 - 1)) (pos (2 ^ 127 - 1)) z
IsSpelling word Nothing = (z : ℤ) → word ≢ spelling z
