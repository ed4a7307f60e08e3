-- Which words spell a number, and which number.
use Prim.Native.Nat.{zero}
use Rattle.std.proofs.Common.{◌≡◌, ◌≢◌, ℕ, ◌+◌, ◌-◌, ◌*◌, ◌/◌, ◌%◌, ◌^◌, ◌<◌, ◌≤◌, suc, ℤ, pos, negsuc, List, [], ◌∷◌, ◌++◌, length, map, drop, slice_index, get_or, EachIndex, refl, sym, ◌∙◌, ap, subst, append_assoc, arith, lit≤, inl, inr, Result, Ok, Err, IfOk, IfErr}
use Rattle.std.specs.Prelude.{◌≤ℤ◌}
use Rattle.std.proofs.lemmas.Int.{ints}
use Rattle.std.proofs.lemmas.List.{append-nil, length-map, get_or-map, at_drop_more}
use Rattle.std.proofs.lemmas.List.Elements.{All-from_recursion}
use Rattle.std.specs.Int.Digits.{digits_of, number_from_digits_after}
use Rattle.std.proofs.lemmas.Int.Digits.{number_digits_of, all_below_base_digits_of, first_digits_of, length-digits_of_step}
use Rattle.cable_definitions.specs.Text.{number}
use Rattle.cable_text.specs.declared.number.NumberFault.{NumberFault}
use Rattle.cable_text.specs.declared.number.NumberFault.TheVariants.{NotDecimal, Over}
use Rattle.cable_definitions.specs.Numeral.{digit_bytes, numeral, spelling}
use Rattle.cable_text.specs.Number.{IsDigit, IsNumeral, LiesOutside, value_after}
use Rattle.cable_text.proofs.Numerals.{digit_bytes-zero, digit_bytes-step, numeral-zero, numeral-digit_bytes, numeral-decimal, length-digit_bytes_step}

-- the bytes after the first
rest_digits : (b : ℕ) (bytes : List ℕ) → EachIndex (b ∷ bytes) (λ k. IsDigit (slice_index (b ∷ bytes) k)) → EachIndex bytes (λ k. IsDigit (slice_index bytes k))
rest_digits b bytes h k below = h (suc k) (omega arith)

-- digits only raise the number
pub value_after-ge : (n : ℕ) (bytes : List ℕ) → n ≤ value_after n bytes
value_after-ge n [] = omega arith
value_after-ge n (b ∷ bytes) = omega (arith, value_after-ge (n * 10 + (b - 48)) bytes)

-- further digits follow those of a number above zero
digits_follow : (n : ℕ) (bytes : List ℕ) → 0 < n → EachIndex bytes (λ k. IsDigit (slice_index bytes k)) → digit_bytes (value_after n bytes) ≡ digit_bytes n ++ bytes
digits_follow n [] h d = sym (append-nil (digit_bytes n))
digits_follow n (b ∷ bytes) h d =
    let f : IsDigit b = d 0 (omega arith) in
    let m : (n * 10 + (b - 48)) / 10 ≡ n = omega (arith, f.0, f.1) in
    let r : 48 + (n * 10 + (b - 48)) % 10 ≡ b = omega (arith, f.0, f.1) in
    let s = digit_bytes-step (n * 10 + (b - 48)) (omega arith) in
    let t : digit_bytes (n * 10 + (b - 48)) ≡ digit_bytes n ++ b ∷ [] = rw (m, r) at s in
    digits_follow (n * 10 + (b - 48)) bytes (omega arith) (rest_digits b bytes d)
    ∙ ap (λ front. front ++ bytes) t ∙ append_assoc (digit_bytes n) (b ∷ []) bytes

-- one digit above zero
digit_bytes-one : (n : ℕ) → 0 < n → n < 10 → digit_bytes n ≡ (48 + n) ∷ []
digit_bytes-one n h small =
    let e : n / 10 ≡ 0 = omega arith in
    let f : n % 10 ≡ n = omega arith in
    let s = digit_bytes-step n h in
    rw (e, f, digit_bytes-zero) at s

-- bytes that begin with the digit of n are the digits of the number that they write
numeral-value_from : (b : ℕ) (bytes : List ℕ) (n : ℕ) → b ≡ 48 + n → IsNumeral (b ∷ bytes) → b ∷ bytes ≡ numeral (value_after n bytes)
numeral-value_from b [] zero e h = rw e (sym numeral-zero)
numeral-value_from b (c ∷ bytes) zero e h =
    let size : length (b ∷ c ∷ bytes) ≡ 1 = h.no_zero_first e in absurd (omega arith)
numeral-value_from b bytes (suc n) e h =
    let f : IsDigit b = h.digits 0 (omega arith) in
    let d = rest_digits b bytes h.digits in
    let up = value_after-ge (suc n) bytes in
    rw e (sym (numeral-digit_bytes (value_after (suc n) bytes) (omega arith) ∙ digits_follow (suc n) bytes (omega arith) d
    ∙ ap (λ front. front ++ bytes) (digit_bytes-one (suc n) (omega arith) (omega (arith, f.1)))))

-- such bytes are the digits of the number that they write
pub numeral-value : (bytes : List ℕ) → IsNumeral bytes → bytes ≡ numeral (value_after 0 bytes)
numeral-value [] h = absurd (omega (arith, h.not_empty))
numeral-value (b ∷ bytes) h =
    let f : IsDigit b = h.digits 0 (omega arith) in
    numeral-value_from b bytes (0 * 10 + (b - 48)) (omega (arith, f.0)) h

-- the bytes of digits are digits
digit_bytes-digits : (n : ℕ) → EachIndex (digit_bytes n) (λ k. IsDigit (slice_index (digit_bytes n) k))
unfolding digit_bytes
digit_bytes-digits n k below =
    let inside : k < length (digits_of 10 n) = rw length-map at below in
    let small : get_or (digits_of 10 n) k 0 < 10 = All-from_recursion (λ d. d < 10) (digits_of 10 n) (all_below_base_digits_of 10 n (lit≤ tt)) k 0 inside in
    rw (get_or-map (λ d. 48 + d) (digits_of 10 n) k 0 0 inside) (omega arith, omega arith)

-- the first digit of a number above zero isn't `0`
digit_bytes-first : (n : ℕ) → 0 < n → slice_index (digit_bytes n) 0 ≢ 48
unfolding digit_bytes
digit_bytes-first n h e =
    let step = length-digits_of_step 10 n (lit≤ tt) h in
    let first = first_digits_of 10 n (lit≤ tt) h in
    let f = rw (get_or-map (λ d. 48 + d) (digits_of 10 n) 0 0 0 (omega arith)) at e in
    omega arith

-- the digits of a number are such bytes
pub IsNumeral-numeral : (n : ℕ) → IsNumeral (numeral n)
IsNumeral-numeral zero = rw numeral-zero (record {
  not_empty = omega arith;
  digits = λ k below. let e : k ≡ 0 = omega arith in rw e (omega arith, omega arith);
  no_zero_first = λ e. refl;
})
IsNumeral-numeral (suc n) = rw (numeral-digit_bytes (suc n) (omega arith)) (record {
  not_empty = omega (arith, length-digit_bytes_step (suc n) (omega arith));
  digits = digit_bytes-digits (suc n);
  no_zero_first = λ e. absurd (digit_bytes-first (suc n) (omega arith) e);
})

-- digits as bytes write the number of the digits
value_after-map : (n : ℕ) (ds : List ℕ) → value_after n (map (λ d. 48 + d) ds) ≡ number_from_digits_after 10 n ds
value_after-map n [] = refl
value_after-map n (d ∷ ds) =
    let e : n * 10 + ((48 + d) - 48) ≡ n * 10 + d = omega arith in
    ap (λ m. value_after m (map (λ k. 48 + k) ds)) e ∙ value_after-map (n * 10 + d) ds

-- the digits of a number write that number
value-digit_bytes : (n : ℕ) → value_after 0 (digit_bytes n) ≡ n
unfolding digit_bytes
value-digit_bytes n = value_after-map 0 (digits_of 10 n) ∙ number_digits_of 10 n (lit≤ tt)

-- the spelling of a number from 0 writes that number
pub value-numeral : (n : ℕ) → value_after 0 (numeral n) ≡ n
value-numeral zero = rw numeral-zero refl
value-numeral (suc n) = rw (numeral-digit_bytes (suc n) (omega arith)) (value-digit_bytes (suc n))

-- no digits begin with `-`
numeral-minus : (n : ℕ) (bytes : List ℕ) → numeral n ≡ 45 ∷ bytes → ⊥
numeral-minus n bytes e =
    let shape = subst IsNumeral e (IsNumeral-numeral n) in
    let first : IsDigit 45 = shape.digits 0 (omega arith) in
    omega (arith, first.0)

-- two numbers with one spelling are the same
pub spelling-same : (y z : ℤ) → spelling y ≡ spelling z → y ≡ z
spelling-same (pos m) (pos n) e = ap pos (sym (value-numeral m) ∙ ap (value_after 0) e ∙ value-numeral n)
spelling-same (pos m) (negsuc n) e = absurd (numeral-minus m (numeral (n + 1)) e)
spelling-same (negsuc m) (pos n) e = absurd (numeral-minus n (numeral (m + 1)) (sym e))
spelling-same (negsuc m) (negsuc n) e =
    let t : numeral (m + 1) ≡ numeral (n + 1) = cc in
    let s : m + 1 ≡ n + 1 = sym (value-numeral (m + 1)) ∙ ap (value_after 0) t ∙ value-numeral (n + 1) in
    let u : m ≡ n = omega arith in
    ap negsuc u

-- a number of at most 64 digits is spelled as it is printed
pub spelling-number : (z : ℤ) → negsuc (10 ^ 64 - 2) ≤ℤ z → z ≤ℤ pos (10 ^ 64 - 1) → spelling z ≡ number z
spelling-number (pos n) low high = numeral-decimal n (omega (arith, ints))
spelling-number (negsuc n) low high = ap (λ ds. 45 ∷ ds) (numeral-decimal (n + 1) (omega (arith, ints)))

-- a word without digits and without `-` in front spells nothing
pub nothing_natural : (word : List ℕ) → (IsNumeral word → ⊥) → slice_index word 0 ≢ 45 → (z : ℤ) → word ≢ spelling z
nothing_natural word h first (pos n) e = h (subst IsNumeral (sym e) (IsNumeral-numeral n))
nothing_natural word h first (negsuc n) e = first (ap (λ xs. slice_index xs 0) e)

-- `-` without digits behind it spells nothing
pub nothing_negative : (word : List ℕ) → (IsNumeral word → ⊥) → (z : ℤ) → 45 ∷ word ≢ spelling z
nothing_negative word h (pos n) e = numeral-minus n word (sym e)
nothing_negative word h (negsuc n) e =
    let t : word ≡ numeral (n + 1) = cc in h (subst IsNumeral (sym t) (IsNumeral-numeral (n + 1)))

-- `-0` and what begins so spells nothing
pub nothing_zero : (word : List ℕ) → slice_index word 0 ≡ 48 → (z : ℤ) → 45 ∷ word ≢ spelling z
nothing_zero word h (pos n) e = numeral-minus n word (sym e)
nothing_zero word h (negsuc n) e =
    let t : word ≡ numeral (n + 1) = cc in
    let u : word ≡ digit_bytes (n + 1) = t ∙ numeral-digit_bytes (n + 1) (omega arith) in
    digit_bytes-first (n + 1) (omega arith) (sym (ap (λ xs. slice_index xs 0) u) ∙ h)

-- digits spell the number that they write
pub spells_natural : (word : List ℕ) → IsNumeral word → word ≡ spelling (pos (value_after 0 word))
spells_natural word h = numeral-value word h

-- digits that don't begin with `0` write a number above zero
pub value-positive : (word : List ℕ) → IsNumeral word → slice_index word 0 ≢ 48 → 1 ≤ value_after 0 word
value-positive [] h first = absurd (omega (arith, h.not_empty))
value-positive (b ∷ bytes) h first =
    let f : IsDigit b = h.digits 0 (omega arith) in
    omega (arith, f.0, first, value_after-ge (0 * 10 + (b - 48)) bytes)

-- `-` and such digits spell the number below zero
pub spells_negative : (word : List ℕ) → IsNumeral word → slice_index word 0 ≢ 48 → 45 ∷ word ≡ spelling (negsuc (value_after 0 word - 1))
spells_negative word h first =
    let up = value-positive word h first in
    let e : (value_after 0 word - 1) + 1 ≡ value_after 0 word = omega arith in
    rw e (ap (λ ds. 45 ∷ ds) (numeral-value word h))

-- one digit more raises the number to at least ten times what it was
pub value_after-drop : (n : ℕ) (bytes : List ℕ) (i whole : ℕ) → i < length bytes → value_after n (drop i bytes) ≡ whole → n * 10 ≤ whole
value_after-drop n bytes i whole below e =
    let m : value_after n (drop i bytes) ≡ value_after n (get_or bytes i 0 ∷ drop (i + 1) bytes) = at_drop_more (value_after n) bytes i 0 below in
    omega (arith, m, value_after-ge (n * 10 + (get_or bytes i 0 - 48)) (drop (i + 1) bytes))

-- a number within the range whose spelling is the word is what a reading of the word answers
pub reads_exactly : (word : List ℕ) (least most z : ℤ) (r : Result ℤ NumberFault) → negsuc (10 ^ 64 - 2) ≤ℤ least → most ≤ℤ pos (10 ^ 64 - 1) → IfOk r (λ y. word ≡ number y) → IfOk r (λ y. (least ≤ℤ y) × (y ≤ℤ most)) → IfErr r (λ e. e ≡ NotDecimal → (y : ℤ) → word ≢ spelling y) → IfErr r (λ e. e ≡ Over → (y : ℤ) × (word ≡ spelling y) × LiesOutside least most y) → word ≡ number z → least ≤ℤ z → z ≤ℤ most → r ≡ Ok z
reads_exactly word least most z (Ok y) low high ok within not_decimal over e from to =
    let f : spelling y ≡ spelling z = spelling-number y (omega (arith, ints, within.0)) (omega (arith, ints, within.1)) ∙ sym ok ∙ e ∙ sym (spelling-number z (omega (arith, ints)) (omega (arith, ints))) in
    ap Ok (spelling-same y z f)
reads_exactly word least most z (Err NotDecimal) low high ok within not_decimal over e from to =
    absurd (not_decimal refl z (e ∙ sym (spelling-number z (omega (arith, ints)) (omega (arith, ints)))))
reads_exactly word least most z (Err Over) low high ok within not_decimal over e from to =
    let w = over refl in
    let s : w.0 ≡ z = spelling-same w.0 z (sym w.1 ∙ e ∙ sym (spelling-number z (omega (arith, ints)) (omega (arith, ints)))) in
    absurd (not_outside least most z from to (subst (LiesOutside least most) s w.2))
  where
    not_outside : (a b y : ℤ) → a ≤ℤ y → y ≤ℤ b → LiesOutside a b y → ⊥
    not_outside a b y h k (inl p) = omega (arith, ints, p)
    not_outside a b y h k (inr p) = omega (arith, ints, p)
