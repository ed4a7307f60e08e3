-- The words of a line.
use Rattle.std.specs.Prelude.{◌≡◌, ◌≢◌, ℕ, List, [], ◌∷◌, All}
use Rattle.std.specs.Option.{option_copied}
use Rattle.cable_definitions.specs.Text.{IsWord, words}
use Rattle.cable_text.specs.Words.{rest_parts}
use Rattle.line_words.specs.declared.words.Words.{Words}

-- the words that are left
abbrev pub held : Words → List (List ℕ)
held w = rest_parts (option_copied w.rest)

-- no word of these is empty
abbrev pub AreFull : List (List ℕ) → Type 0
AreFull [] = Unit {0}
AreFull (w ∷ ws) = (w ≢ []) × AreFull ws

-- the text is these words with one space between
pub record IsOfWords (text : List ℕ) (ws : List (List ℕ)) : Type 0 where
  pub are_words : All IsWord ws
  pub text_is : text ≡ words ws

-- the text is of the words that are held, and of no others
pub record IsCut (text : List ℕ) (ws : List (List ℕ)) : Type 0 where
  pub of_words : ws ≢ [] → IsOfWords text ws
  pub no_others : (vs : List (List ℕ)) → vs ≢ [] → IsOfWords text vs → vs ≡ ws
