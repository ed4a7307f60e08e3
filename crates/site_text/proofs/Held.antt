-- Numbers as 128 bits hold them.
use Rattle.std.proofs.Common.{◌≡◌, ℕ, ◌-◌, ◌^◌, inl, inr, ℤ, pos, negsuc, ◌≤ℤ◌, List, Some, refl, sym, ap, ◌∙◌, arith, true, leb}
use Rattle.std.specs.Prelude.{◌&&◌}
use Rattle.std.proofs.lemmas.Int.{ints}
use Rattle.std.proofs.lemmas.Bool.{le-leb, lt-leb, cond-true, cond-false, and_left, and_from}
use Rattle.cable_definitions.specs.Text.{number}
use Rattle.cable_definitions.specs.Numeral.{spelling}
use Rattle.cable_text.specs.Number.{LiesOutside}
use Rattle.cable_text.proofs.Reading.{spelling-number}
use Rattle.site_text.specs.Item.{held_in_128, ReadsAs}

-- a number of 128 bits, but for the least, is held as it is
pub held_same : (z : ℤ) → negsuc (2 ^ 127 - 1) ≤ℤ z → z ≤ℤ pos (2 ^ 127 - 1) → held_in_128 z ≡ z
held_same (pos n) low high = cond-true (leb n (2 ^ 127 - 1)) (pos n) (pos (2 ^ 127 - 1)) (le-leb n (2 ^ 127 - 1) (omega (arith, ints)))
held_same (negsuc n) low high = cond-true (leb n (2 ^ 127 - 1) && true) (negsuc n) (pos (2 ^ 127 - 1)) (and_from (leb n (2 ^ 127 - 1)) true (le-leb n (2 ^ 127 - 1) (omega (arith, ints))) refl)

-- one beyond is held as the greatest
pub held_beyond : (z : ℤ) → LiesOutside (negsuc (2 ^ 127 - 1)) (pos (2 ^ 127 - 1)) z → held_in_128 z ≡ pos (2 ^ 127 - 1)
held_beyond (pos n) (inl low) = absurd (omega (arith, ints))
held_beyond (pos n) (inr high) = cond-false (leb n (2 ^ 127 - 1)) (pos n) (pos (2 ^ 127 - 1)) (lt-leb n (2 ^ 127 - 1) (omega (arith, ints)))
held_beyond (negsuc n) (inl low) = cond-false (leb n (2 ^ 127 - 1) && true) (negsuc n) (pos (2 ^ 127 - 1)) (and_left (leb n (2 ^ 127 - 1)) true (lt-leb n (2 ^ 127 - 1) (omega (arith, ints))))
held_beyond (negsuc n) (inr high) = absurd (omega (arith, ints))

-- a word that was read
pub read_within : (word : List ℕ) (z : ℤ) → word ≡ number z → negsuc (2 ^ 127 - 1) ≤ℤ z → z ≤ℤ pos (2 ^ 127 - 1) → ReadsAs word (Some z)
read_within word z e low high = record { value = Some z; reads = e ∙ sym (spelling-number z (omega (arith, ints)) (omega (arith, ints))); held_is = ap Some (sym (held_same z low high)) }

-- a word that spells a number beyond 128 bits
pub read_beyond : (word : List ℕ) (z : ℤ) → word ≡ spelling z → LiesOutside (negsuc (2 ^ 127 - 1)) (pos (2 ^ 127 - 1)) z → ReadsAs word (Some (pos (2 ^ 127 - 1)))
read_beyond word z e o = record { value = Some z; reads = e; held_is = ap Some (sym (held_beyond z o)) }
