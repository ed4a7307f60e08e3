-- The words of a line are what stands between its spaces.
use Rattle.std.proofs.Common.{◌≡◌, ◌≢◌, ℕ, List, [], ◌∷◌, not, ◌==◌, refl, sym, ap, ◌∙◌, subst, All}
use Rattle.std.specs.List.{AllPass}
use Rattle.std.proofs.lemmas.List.Elements.{All-head, All-tail, All-nil, All-cons}
use Rattle.cable_definitions.specs.Text.{IsWord, HasNoNewline}
use Rattle.cable_text.specs.Words.{parts}
use Rattle.cable_text.proofs.Splitting.{words-parts, parts-words, parts_plain}
use Rattle.line_words.specs.Words.{AreFull, IsOfWords, IsCut}

-- words that are full and plain are words
words_by : (ws : List (List ℕ)) → All (λ w. AllPass (λ b. not (b == 32)) w × AllPass (λ b. not (b == 10)) w) ws → AreFull ws → All IsWord ws
words_by [] h full = All-nil IsWord
words_by (w ∷ ws) h full =
    let P : List ℕ → Type 0 = λ v. AllPass (λ b. not (b == 32)) v × AllPass (λ b. not (b == 10)) v in
    let k = All-head P w ws h in
    All-cons IsWord w ws (record { not_empty = full.0; no_space = k.0; no_newline = k.1 }) (words_by ws (All-tail P w ws h) full.1)

-- words are full
full_words : (ws : List (List ℕ)) → All IsWord ws → AreFull ws
full_words [] h = tt
full_words (w ∷ ws) h = ((All-head IsWord w ws h).not_empty, full_words ws (All-tail IsWord w ws h))

-- a text of words has them as its parts
parts_of : (text : List ℕ) (ws : List (List ℕ)) → ws ≢ [] → IsOfWords text ws → parts text ≡ ws
parts_of text ws some h = ap parts h.text_is ∙ parts-words ws some h.are_words

-- a line whose parts are full is of these words
pub cut_full : (text : List ℕ) → HasNoNewline text → AreFull (parts text) → IsCut text (parts text)
cut_full text plain full = record {
  of_words = λ some. record { are_words = words_by (parts text) (parts_plain text plain) full; text_is = sym (words-parts text) };
  no_others = λ vs some h. sym (parts_of text vs some h);
}

-- a line with an empty part is of no words
pub cut_empty : (text : List ℕ) → ¬ (AreFull (parts text)) → IsCut text []
cut_empty text none = record {
  of_words = λ some. absurd (some refl);
  no_others = λ vs some h. absurd (none (subst AreFull (sym (parts_of text vs some h)) (full_words vs h.are_words)));
}
