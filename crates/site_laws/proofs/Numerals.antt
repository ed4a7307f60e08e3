-- The words of a site's lines: they are words, they are short, and the numbers among them are spelled so.
use Rattle.std.proofs.Common.{◌≡◌, ◌≢◌, ℕ, zero, suc, ◌+◌, ◌^◌, ◌≤◌, ◌<◌, ℤ, pos, negsuc, List, [], ◌∷◌, length, Bool, true, false, not, ◌==◌, ◌&&◌, nat_le, get_or, slice_index, EachIndex, refl, sym, ap, ◌∙◌, subst, arith}
use Rattle.std.specs.List.{AllPass, list_all}
use Rattle.std.specs.Fmt.{decimal}
use Rattle.std.proofs.lemmas.Int.{ints}
use Rattle.std.proofs.lemmas.Bool.{and_from, le-leb, ne_eqb, not_from_false}
use Rattle.std.proofs.lemmas.List.Elements.{All-weaker, All-cons, All-from_get_or}
use Rattle.std.proofs.lemmas.List.Sums.{AllPass-from_list_all}
use Rattle.cable_definitions.specs.Coordinate.{IsCoordinate}
use Rattle.cable_definitions.specs.Naming.{IsName, is_name_byte}
use Rattle.cable_definitions.specs.Numeral.{numeral, spelling}
use Rattle.cable_definitions.specs.Text.{number, IsWord}
use Rattle.cable_text.specs.Number.{IsDigit}
use Rattle.cable_text.proofs.Numerals.{length-digit_bytes, numeral-zero, numeral-digit_bytes, numeral-decimal}
use Rattle.cable_text.proofs.Reading.{IsNumeral-numeral}

-- a word of at most 40 bytes
pub record Fits (w : List ℕ) : Type 0 where
  pub word : IsWord w
  pub short : length w ≤ 40

-- a test that a byte fails excludes it
apart : (p : ℕ → Bool) (c : ℕ) → p c ≡ false → (b : ℕ) → p b ≡ true → not (b == c) ≡ true
apart p c fails b passes = not_from_false (b == c) (ne_eqb b c (λ e. let f : p c ≡ true = sym (ap p e) ∙ passes in cc))

-- something has a length
some_bytes : (w : List ℕ) → 1 ≤ length w → w ≢ []
some_bytes [] h e = omega arith
some_bytes (b ∷ bs) h e = cc

-- bytes that pass a test which a newline and a space fail are a word
word_by : (p : ℕ → Bool) (w : List ℕ) → p 32 ≡ false → p 10 ≡ false → 1 ≤ length w → AllPass p w → IsWord w
word_by p w space newline some h = record {
  not_empty = some_bytes w some;
  no_space = All-weaker (λ b. p b ≡ true) (λ b. not (b == 32) ≡ true) (apart p 32 space) w h;
  no_newline = All-weaker (λ b. p b ≡ true) (λ b. not (b == 10) ≡ true) (apart p 10 newline) w h;
}

-- a small letter
abbrev pub is_letter : ℕ → Bool
is_letter b = nat_le 97 b && nat_le b 122

-- a short word of small letters
pub letters_fit : (w : List ℕ) → list_all is_letter w ≡ true → 1 ≤ length w → length w ≤ 40 → Fits w
letters_fit w h some short = record { word = word_by is_letter w refl refl some (AllPass-from_list_all is_letter w h); short = short }

-- a name
pub name_fits : (n : List ℕ) → IsName n → Fits n
name_fits n h = record { word = word_by is_name_byte n refl refl h.not_empty h.spelled; short = let s = h.short in omega arith }

-- a digit
abbrev is_digit_byte : ℕ → Bool
is_digit_byte b = nat_le 48 b && nat_le b 57

-- digits pass the test
digits_pass : (w : List ℕ) → EachIndex w (λ k. IsDigit (slice_index w k)) → AllPass is_digit_byte w
digits_pass w h = All-from_get_or (λ b. is_digit_byte b ≡ true) w 0 (λ i l. let d = h i l in and_from (nat_le 48 (get_or w i 0)) (nat_le (get_or w i 0) 57) (le-leb 48 (get_or w i 0) d.0) (le-leb (get_or w i 0) 57 d.1))

-- the digits of a number are a word
numeral_word : (n : ℕ) → IsWord (numeral n)
numeral_word n = let h = IsNumeral-numeral n in word_by is_digit_byte (numeral n) refl refl h.not_empty (digits_pass (numeral n) h.digits)

-- they are few
numeral_short : (n : ℕ) → n < 10 ^ 20 → length (numeral n) ≤ 20
numeral_short zero h = omega (arith, ap length numeral-zero)
numeral_short (suc n) h = omega (arith, ap length (numeral-digit_bytes (suc n) (omega arith)), length-digit_bytes 20 (suc n) h)

-- a number from 0 that a site can hold is spelled as it is printed
pub natural_spelled : (n : ℕ) → n < 10 ^ 20 → decimal n ≡ spelling (pos n)
natural_spelled n h = sym (numeral-decimal n (omega arith))

-- its digits are a short word
pub natural_fits : (n : ℕ) → n < 10 ^ 20 → Fits (decimal n)
natural_fits n h = subst Fits (numeral-decimal n (omega arith)) (record { word = numeral_word n; short = let s = numeral_short n h in omega arith })

-- a coordinate is spelled as it is printed
pub coordinate_spelled : (z : ℤ) → IsCoordinate z → number z ≡ spelling z
coordinate_spelled (pos n) c = natural_spelled n (let m = c.most in omega (arith, ints))
coordinate_spelled (negsuc n) c = ap (λ ds. 45 ∷ ds) (natural_spelled (n + 1) (let m = c.least in omega (arith, ints)))

-- `-` before a word is a word
minus_word : (w : List ℕ) → IsWord w → IsWord (45 ∷ w)
minus_word w h = record {
  not_empty = λ e. cc;
  no_space = All-cons (λ b. not (b == 32) ≡ true) 45 w refl h.no_space;
  no_newline = All-cons (λ b. not (b == 10) ≡ true) 45 w refl h.no_newline;
}

-- a coordinate is a short word
pub coordinate_fits : (z : ℤ) → IsCoordinate z → Fits (number z)
coordinate_fits (pos n) c = natural_fits n (let m = c.most in omega (arith, ints))
coordinate_fits (negsuc n) c =
    let small : n + 1 < 10 ^ 20 = (let m = c.least in omega (arith, ints)) in
    let e = numeral-decimal (n + 1) (omega arith) in
    let W : List ℕ → Type 0 = λ w. IsWord w in
    record {
      word = minus_word (decimal (n + 1)) (subst W e (numeral_word (n + 1)));
      short = let s = numeral_short (n + 1) small in omega (arith, ap length e);
    }
