-- The item of a line is what its words say.
use Rattle.std.proofs.Common.{◌≡◌, ◌≢◌, ℕ, suc, ◌⊎◌, inl, inr, List, [], ◌∷◌, length, true, not, ◌==◌, refl, sym, ap, ◌∙◌, subst, All}
use Rattle.std.specs.List.{AllPass}
use Rattle.std.proofs.lemmas.List.Elements.{All-head, All-tail, All-nil, All-cons}
use Rattle.cable_definitions.specs.declared.site.Version.{Version}
use Rattle.cable_definitions.specs.Text.{IsWord, HasNoNewline, Whole}
use Rattle.cable_definitions.specs.Items.{RawItem, Stray as AStray, HasWords, IsLineOf, IsItemOf}
use Rattle.site_text.specs.declared.item.Item.{Item}
use Rattle.cable_text.specs.Words.{parts}
use Rattle.site_text.specs.Words.{are_fields}
use Rattle.site_text.specs.Item.{HaveNoEmpty, IsSaid, IsItemOfLine}
use Rattle.cable_text.proofs.Splitting.{words-parts, parts-words, parts_plain}
use Rattle.site_text.proofs.Saying.{says_some}

-- a word counts as one field
full_field : (n : ℕ) (w : List ℕ) (ws : List (List ℕ)) → w ≢ [] → are_fields (suc n) (w ∷ ws) ≡ are_fields n ws
full_field n [] ws h = absurd (h refl)
full_field n (b ∷ bs) ws h = refl

-- words are so many fields
fields_of_words : (ws : List (List ℕ)) → All IsWord ws → are_fields (length ws) ws ≡ true
fields_of_words [] h = refl
fields_of_words (w ∷ ws) h = full_field (length ws) w ws (All-head IsWord w ws h).not_empty ∙ fields_of_words ws (All-tail IsWord w ws h)

-- the parts of a line's text are words where none is empty
parts_words : (text : List ℕ) → HasNoNewline text → HaveNoEmpty (parts text) → All IsWord (parts text)
parts_words text h full = words_by (parts text) (parts_plain text h) full
  where
    words_by : (ws : List (List ℕ)) → All (λ w. AllPass (λ b. not (b == 32)) w × AllPass (λ b. not (b == 10)) w) ws → HaveNoEmpty ws → All IsWord ws
    words_by [] h full = All-nil IsWord
    words_by ([] ∷ ws) h full = absurd (cc)
    words_by ((b ∷ bs) ∷ ws) h full =
        let P : List ℕ → Type 0 = λ w. AllPass (λ b. not (b == 32)) w × AllPass (λ b. not (b == 10)) w in
        let k = All-head P (b ∷ bs) ws h in
        All-cons IsWord (b ∷ bs) ws (record { not_empty = λ e. cc; no_space = k.0; no_newline = k.1 }) (words_by ws (All-tail P (b ∷ bs) ws h) full)

-- a line with these words is a line with these parts
parts_of : (version : Version) (text : List ℕ) (item : RawItem) → IsLineOf version text item → HaveNoEmpty (parts text) × HasWords version (parts text) item
parts_of version text item l =
    let some : l.ws ≢ [] = says_some version l.ws item l.says in
    let same : parts text ≡ l.ws = ap parts l.text_is ∙ parts-words l.ws some l.are_words in
    let P : List (List ℕ) → Type 0 = λ ws. HaveNoEmpty ws × HasWords version ws item in
    subst P (sym same) (fields_of_words l.ws l.are_words, l.says)

-- the item of a line is what its parts say
pub item_of_line : (version : Version) (text : List ℕ) (item : Item) → HasNoNewline text → IsSaid version (parts text) item → IsItemOfLine version text item
item_of_line version text item h s = record { raw = s.raw; held_is = s.held_is; item_of = of s.raw s.says }
  where
    of : (raw : RawItem) → (HaveNoEmpty (parts text) × HasWords version (parts text) raw) ⊎ ((raw ≡ AStray) × ((other : RawItem) → HaveNoEmpty (parts text) → HasWords version (parts text) other → ⊥)) → IsItemOf version (Whole text) raw
    of raw (inl k) = inl (record { ws = parts text; are_words = parts_words text h k.0; text_is = sym (words-parts text); says = k.1 })
    of raw (inr k) = inr (k.0, λ other l. let p = parts_of version text other l in k.1 other p.0 p.1)
