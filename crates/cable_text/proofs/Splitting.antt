-- Words between single spaces: what a line's text is cut into, and that a text has one list of words.
use Rattle.std.proofs.Common.{◌≡◌, ◌≢◌, ℕ, ◌+◌, ◌≤◌, ◌<◌, List, [], ◌∷◌, ◌++◌, length, true, false, not, ◌==◌, refl, sym, ap, ◌∙◌, arith, All, take, drop, get_or, take-append-drop, cond}
use Rattle.std.specs.List.{onto_first, join_with_byte, AllPass}
use Rattle.std.proofs.lemmas.List.Splits.{slice_split_none, slice_split_at, join_with_byte-slice_split}
use Rattle.std.proofs.lemmas.List.Elements.{All-weaker, All-head, All-tail, All-from_get_or, All-same, All-nil, All-cons}
use Rattle.std.proofs.lemmas.List.{length-take-le, get_or-take, drop_more, take_all}
use Rattle.std.proofs.lemmas.Bool.{not-true, not_from_false, ne_eqb, cond_both}
use Rattle.cable_definitions.specs.Text.{words, IsWord}
use Rattle.cable_text.specs.Words.{parts}

-- no byte of these is a space
pub no_space : (w : List ℕ) → AllPass (λ b. not (b == 32)) w → All (λ b. (b == 32) ≡ false) w
no_space w h = All-weaker (λ b. not (b == 32) ≡ true) (λ b. (b == 32) ≡ false) (λ b e. not-true (b == 32) e) w h

-- the parts of words are the words
pub parts-words : (ws : List (List ℕ)) → ws ≢ [] → All IsWord ws → parts (words ws) ≡ ws
parts-words [] n h = absurd (n refl)
parts-words (w ∷ []) n h = slice_split_none (λ b. b == 32) w (no_space w (All-head IsWord w [] h).no_space)
parts-words (w ∷ v ∷ ws) n h =
    slice_split_at (λ b. b == 32) w 32 (words (v ∷ ws)) (no_space w (All-head IsWord w (v ∷ ws) h).no_space) refl
    ∙ ap (λ l. w ∷ l) (parts-words (v ∷ ws) (λ e. cc) (All-tail IsWord w (v ∷ ws) h))

-- the words are joined as the parts of a text are
words_joined : (ws : List (List ℕ)) → words ws ≡ join_with_byte 32 ws
words_joined [] = refl
words_joined (w ∷ []) = refl
words_joined (w ∷ v ∷ ws) = ap (λ l. w ++ 32 ∷ l) (words_joined (v ∷ ws))

-- the parts of a text, with a space between each two, are the text
pub words-parts : (text : List ℕ) → words (parts text) ≡ text
words-parts text = words_joined (parts text) ∙ join_with_byte-slice_split 32 text

-- two lists of words with one text are one
pub words_injective : (ws vs : List (List ℕ)) → ws ≢ [] → vs ≢ [] → All IsWord ws → All IsWord vs → words ws ≡ words vs → ws ≡ vs
words_injective ws vs m n h k e = sym (parts-words ws m h) ∙ (ap parts e ∙ parts-words vs n k)

-- no byte before the place is a space
no_space_before : (text : List ℕ) (i : ℕ) → i ≤ length text → ((k : ℕ) → k < i → get_or text k 0 ≢ 32) → All (λ b. (b == 32) ≡ false) (take i text)
no_space_before text i h before = All-from_get_or (λ b. (b == 32) ≡ false) (take i text) 0 (λ k l.
    let n : k < i = omega (arith, length-take-le i text h) in
    rw (get_or-take i text k 0 n) (ne_eqb (get_or text k 0) 32 (before k n)))

-- a text is cut at its first space
pub parts_at : (text : List ℕ) (i : ℕ) → i < length text → ((k : ℕ) → k < i → get_or text k 0 ≢ 32) → get_or text i 0 ≡ 32 → parts text ≡ take i text ∷ parts (drop (i + 1) text)
parts_at text i h before here =
    let whole : text ≡ take i text ++ 32 ∷ drop (i + 1) text = sym (take-append-drop i text) ∙ ap (λ l. take i text ++ l) (drop_more text i 0 h ∙ ap (λ b. b ∷ drop (i + 1) text) here) in
    ap parts whole ∙ slice_split_at (λ b. b == 32) (take i text) 32 (drop (i + 1) text) (no_space_before text i (omega arith) before) refl

-- a text with no space is one part
pub parts_none : (text : List ℕ) → ((k : ℕ) → k < length text → get_or text k 0 ≢ 32) → parts text ≡ text ∷ []
parts_none text before = slice_split_none (λ b. b == 32) text (All-same (λ b. (b == 32) ≡ false) text (take (length text) text) (sym (take_all (length text) text (omega arith))) (no_space_before text (length text) (omega arith) before))

-- a part with no space and no newline
abbrev pub Plain : List ℕ → Type 0
Plain w = AllPass (λ b. not (b == 32)) w × AllPass (λ b. not (b == 10)) w

-- no part holds a space, nor a newline where the text holds none
pub parts_plain : (text : List ℕ) → AllPass (λ b. not (b == 10)) text → All Plain (parts text)
parts_plain [] h = All-cons Plain [] [] (All-nil (λ b. not (b == 32) ≡ true), All-nil (λ b. not (b == 10) ≡ true)) (All-nil Plain)
parts_plain (b ∷ bs) h = next (parts bs) (parts_plain bs (All-tail (λ x. not (x == 10) ≡ true) b bs h)) (All-head (λ x. not (x == 10) ≡ true) b bs h)
  where
    onto : (ws : List (List ℕ)) → (b == 32) ≡ false → not (b == 10) ≡ true → All Plain ws → All Plain (onto_first b ws)
    onto [] e this k = All-cons Plain (b ∷ []) [] (All-cons (λ x. not (x == 32) ≡ true) b [] (not_from_false (b == 32) e) (All-nil (λ x. not (x == 32) ≡ true)), All-cons (λ x. not (x == 10) ≡ true) b [] this (All-nil (λ x. not (x == 10) ≡ true))) (All-nil Plain)
    onto (w ∷ ws) e this k =
        let p = All-head Plain w ws k in
        All-cons Plain (b ∷ w) ws (All-cons (λ x. not (x == 32) ≡ true) b w (not_from_false (b == 32) e) p.0, All-cons (λ x. not (x == 10) ≡ true) b w this p.1) (All-tail Plain w ws k)

    next : (ws : List (List ℕ)) → All Plain ws → not (b == 10) ≡ true → All Plain (cond (b == 32) ([] ∷ ws) (onto_first b ws))
    next ws k this =
        cond_both (b == 32) ([] ∷ ws) (onto_first b ws) (λ vs. All Plain vs)
        (λ e. All-cons Plain [] ws (All-nil (λ x. not (x == 32) ≡ true), All-nil (λ x. not (x == 10) ≡ true)) k)
        (λ e. onto ws e this k)
