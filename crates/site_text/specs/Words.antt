-- The words of a line.
use Rattle.std.specs.Prelude.{ℕ, zero, suc, List, [], ◌∷◌, Bool, true, false}

-- whether these are so many words, none of them empty
abbrev pub are_fields : ℕ → List (List ℕ) → Bool
are_fields zero [] = true
are_fields zero (w ∷ ws) = false
are_fields (suc n) [] = false
are_fields (suc n) ([] ∷ ws) = false
are_fields (suc n) ((b ∷ bs) ∷ ws) = are_fields n ws
