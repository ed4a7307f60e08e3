-- Numbers of any size are words, and words hold no newline.
use Rattle.std.proofs.Common.{◌≡◌, ◌≢◌, ℕ, ◌+◌, ◌≤◌, List, [], ◌∷◌, length, get_or, slice_index, EachIndex, Bool, true, false, not, ◌==◌, ◌&&◌, nat_le, refl, sym, ap, ◌∙◌, arith, All, ℤ, pos, negsuc}
use Rattle.std.specs.List.{AllPass}
use Rattle.std.proofs.lemmas.List.Elements.{All-weaker, All-head, All-tail, All-from_get_or, All-nil, All-cons, All-append}
use Rattle.std.proofs.lemmas.Bool.{not_from_false, ne_eqb, and_from, le-leb}
use Rattle.cable_definitions.specs.Text.{words, IsWord, HasNoNewline}
use Rattle.cable_definitions.specs.Numeral.{spelling, numeral}
use Rattle.cable_text.specs.Number.{IsDigit}
use Rattle.cable_text.proofs.Reading.{IsNumeral-numeral}

-- words hold no newline
pub words_plain : (ws : List (List ℕ)) → All IsWord ws → HasNoNewline (words ws)
words_plain [] h = All-nil (λ x. not (x == 10) ≡ true)
words_plain (w ∷ []) h = (All-head IsWord w [] h).no_newline
words_plain (w ∷ v ∷ ws) h =
    All-append (λ x. not (x == 10) ≡ true) w (32 ∷ words (v ∷ ws)) (All-head IsWord w (v ∷ ws) h).no_newline
    (All-cons (λ x. not (x == 10) ≡ true) 32 (words (v ∷ ws)) refl (words_plain (v ∷ ws) (All-tail IsWord w (v ∷ ws) h)))

-- a test that excludes a byte
apart : (p : ℕ → Bool) (c : ℕ) → p c ≡ false → (b : ℕ) → p b ≡ true → not (b == c) ≡ true
apart p c fails b passes = not_from_false (b == c) (ne_eqb b c (λ e. let f : p c ≡ true = sym (ap p e) ∙ passes in cc))

-- a digit
abbrev is_digit_byte : ℕ → Bool
is_digit_byte b = nat_le 48 b && nat_le b 57

-- digits pass the test
digits_pass : (w : List ℕ) → EachIndex w (λ k. IsDigit (slice_index w k)) → AllPass is_digit_byte w
digits_pass w h = All-from_get_or (λ b. is_digit_byte b ≡ true) w 0 (λ i l. let d = h i l in and_from (nat_le 48 (get_or w i 0)) (nat_le (get_or w i 0) 57) (le-leb 48 (get_or w i 0) d.0) (le-leb (get_or w i 0) 57 d.1))

-- something has a length
full_by_length : (w : List ℕ) → 1 ≤ length w → w ≢ []
full_by_length [] h e = absurd (omega arith)
full_by_length (b ∷ bs) h e = cc

-- a numeral is a word
pub numeral_word : (n : ℕ) → IsWord (numeral n)
numeral_word n =
    let h = IsNumeral-numeral n in
    let digits = digits_pass (numeral n) h.digits in
    record {
      not_empty = full_by_length (numeral n) h.not_empty;
      no_space = All-weaker (λ b. is_digit_byte b ≡ true) (λ b. not (b == 32) ≡ true) (apart is_digit_byte 32 refl) (numeral n) digits;
      no_newline = All-weaker (λ b. is_digit_byte b ≡ true) (λ b. not (b == 10) ≡ true) (apart is_digit_byte 10 refl) (numeral n) digits;
    }

-- `-` before a word is a word
minus_word : (w : List ℕ) → IsWord w → IsWord (45 ∷ w)
minus_word w h = record {
  not_empty = λ e. cc;
  no_space = All-cons (λ b. not (b == 32) ≡ true) 45 w refl h.no_space;
  no_newline = All-cons (λ b. not (b == 10) ≡ true) 45 w refl h.no_newline;
}

-- a spelling is a word
pub spelling_word : (z : ℤ) → IsWord (spelling z)
spelling_word (pos n) = numeral_word n
spelling_word (negsuc n) = minus_word (numeral (n + 1)) (numeral_word (n + 1))
