-- The members of a row as words spell them.
use Rattle.std.specs.Prelude.{◌≡◌, ℕ, ◌≤◌, ℤ, pos, List, length, map, Bool, true, false, All, Some}
use Rattle.cable_definitions.specs.Numeral.{spelling}
use Rattle.cable_definitions.specs.Items.{Field, IsWithin, within}

-- a number from 0 to `most`
abbrev pub up_to : ℕ → ℤ → Field
up_to most z = within (Some z) (pos 0) (pos most)

-- at most 256 numbers, each from 0 to `most`
abbrev pub Fit : ℕ → List ℤ → Type 0
Fit most zs = All IsWithin (map (up_to most) zs) × (length zs ≤ 256)

-- each word spells a number; where `fits`, these are the members, and otherwise they don't fit
pub record AreSpelled (ws : List (List ℕ)) (most : ℕ) (fits : Bool) (members : List ℕ) : Type 0 where
  pub numbers : List ℤ
  pub words_are : ws ≡ map spelling numbers
  pub fit : fits ≡ true → (numbers ≡ map pos members) × Fit most numbers
  pub unfit : fits ≡ false → ¬ (Fit most numbers)
