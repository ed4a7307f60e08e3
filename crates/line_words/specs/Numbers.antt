-- Numbers of a line.
use Rattle.std.specs.Prelude.{◌≡◌, ℤ, pos, neg_ℤ, ◌≤ℤ◌}
use Rattle.cable_text.specs.Number.{LiesOutside}
use Rattle.line_words.specs.declared.number.Number.{Number}
use Rattle.line_words.specs.declared.number.Number.TheVariants.{Small, Other}

-- the whole number that is held, or one that is not from -2 ^ 76 to 2 ^ 76
abbrev pub Is : Number → ℤ → Type 0
Is (Small n) z = (z ≡ n) × (neg_ℤ (pos 75557863725914323419136) ≤ℤ n) × (n ≤ℤ pos 75557863725914323419136)
Is Other z = LiesOutside (neg_ℤ (pos 75557863725914323419136)) (pos 75557863725914323419136) z
