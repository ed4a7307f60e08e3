-- What stands between the spaces of a text.
use Rattle.std.specs.Prelude.{ℕ, List, [], ◌==◌, Option, Some, None}
use Rattle.std.specs.List.{slice_split}

-- what stands between the spaces of a text
abbrev pub parts : List ℕ → List (List ℕ)
parts text = slice_split (λ b. b == 32) text

-- the parts of what follows a word; none where nothing follows
abbrev pub rest_parts : Option (List ℕ) → List (List ℕ)
rest_parts None = []
rest_parts (Some text) = parts text
