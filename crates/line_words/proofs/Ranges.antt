-- Numbers within and beyond their ranges.
use Rattle.std.proofs.Common.{◌≡◌, ℕ, ℤ, pos, List, Some, inl, inr, refl, sym, ◌∙◌, subst, arith, ◌≤ℤ◌}
use Rattle.std.specs.Prelude.{neg_ℤ}
use Rattle.std.proofs.lemmas.Int.{ints}
use Rattle.cable_definitions.specs.Text.{number}
use Rattle.cable_definitions.specs.Numeral.{spelling}
use Rattle.cable_definitions.specs.Items.{IsWithin, within}
use Rattle.cable_text.proofs.Reading.{spelling-number}
use Rattle.line_words.specs.declared.number.Number.{Number}
use Rattle.line_words.specs.declared.number.Number.TheVariants.{Small, Other}
use Rattle.line_words.specs.Numbers.{Is}

-- a number that isn't small
pub beyond_range : (n : Number) (least most : ℤ) → n ≡ Other → neg_ℤ (pos 75557863725914323419136) ≤ℤ least → most ≤ℤ pos 75557863725914323419136 → (z : ℤ) → Is n z → ¬ (IsWithin (within (Some z) least most))
beyond_range n least most e low_end high_end z is w =
    let k : Is Other z = subst (λ m. Is m z) e is in
    let b = w z refl in
    elim k [ inl low ↦ absurd (omega (arith, ints, low, b.0, low_end)) | inr high ↦ absurd (omega (arith, ints, high, b.1, high_end)) ]

-- a word that was read as a small number
pub small_read : (word : List ℕ) (z : ℤ) → word ≡ number z → neg_ℤ (pos 75557863725914323419136) ≤ℤ z → z ≤ℤ pos 75557863725914323419136 → (y : ℤ) × (word ≡ spelling y) × Is (Small z) y
small_read word z e low high = (z, e ∙ sym (spelling-number z (omega (arith, ints, low)) (omega (arith, ints, high))), (refl, low, high))
