-- How many words what is left of a line has.
use Rattle.std.proofs.Common.{◌≡◌, List, [], ◌∷◌, true, false, ◌==◌, refl, ℕ, Option, Some, None, Bor}
use Rattle.std.specs.List.{onto_first}
use Rattle.std.specs.Option.{is_some, option_copied}
use Rattle.std.proofs.lemmas.Bool.{cond_both}
use Rattle.cable_text.specs.Words.{parts, rest_parts}
use Rattle.site_text.specs.Words.{are_fields}

-- a text is at least one part
parts_some : (text : List ℕ) → are_fields 0 (parts text) ≡ false
parts_some [] = refl
parts_some (b ∷ bs) = cond_both (b == 32) ([] ∷ parts bs) (onto_first b (parts bs)) (λ ws. are_fields 0 ws ≡ false) (λ _. refl) (λ _. onto (parts bs))
  where
    onto : (ws : List (List ℕ)) → are_fields 0 (onto_first b ws) ≡ false
    onto [] = refl
    onto (w ∷ ws) = refl

-- where something follows, a word follows
pub rest_some : (rest : Option (Bor (List ℕ))) → is_some rest ≡ true → are_fields 0 (rest_parts (option_copied rest)) ≡ false
rest_some None e = cc
rest_some (Some text) e = parts_some text.now

-- where nothing follows, no word does
pub rest_none : (rest : Option (Bor (List ℕ))) → is_some rest ≡ false → are_fields 0 (rest_parts (option_copied rest)) ≡ true
rest_none None e = refl
rest_none (Some text) e = cc
