-- The digits of a number, and the number that digits write.
use Prim.Native.Nat.{zero}
use Rattle.std.proofs.Common.{◌≡◌, ℕ, ◌+◌, ◌-◌, ◌/◌, ◌%◌, ◌^◌, ◌<◌, ◌≤◌, suc, ℤ, pos, negsuc, List, [], ◌∷◌, ◌++◌, length, map, take, drop, refl, sym, ◌∙◌, ap, append_assoc, arith, lit≤}
use Rattle.std.proofs.lemmas.List.{map-append, length-map, length-append}
use Rattle.std.proofs.lemmas.Int.Digits.{digits_of_step, length-digits_of-le}
use Rattle.std.proofs.lemmas.Fmt.{decimal_by_steps_wide}
use Rattle.std.specs.Int.Digits.{digits_of}
use Rattle.std.specs.Prelude.{unsigned_abs, ◌<ℤ◌, ◌≤ℤ◌}
use Rattle.std.proofs.lemmas.Int.{ints}
use Rattle.std.proofs.lemmas.Bool.Decides.{nat_tests}
use Rattle.std.proofs.lemmas.List.{drop-set, take_all, length-drop, length-set}
use Rattle.std.proofs.Common.{set}
use Rattle.cable_definitions.specs.Text.{number}
use Rattle.std.specs.Fmt.{decimal}
use Rattle.cable_definitions.specs.Numeral.{digit_bytes, numeral}

-- zero has no digits
pub digit_bytes-zero : digit_bytes 0 ≡ []
unfolding digit_bytes
digit_bytes-zero = refl

-- the last digit of a number
pub digit_bytes-step : (n : ℕ) → 0 < n → digit_bytes n ≡ digit_bytes (n / 10) ++ (48 + n % 10) ∷ []
unfolding digit_bytes
digit_bytes-step n h =
    ap (λ ds. map (λ d. 48 + d) ds) (digits_of_step 10 n (lit≤ tt) h) ∙ map-append (λ d. 48 + d) (digits_of 10 (n / 10)) (n % 10 ∷ [])

-- a number of few digits
pub length-digit_bytes : (k n : ℕ) → n < 10 ^ k → length (digit_bytes n) ≤ k
unfolding digit_bytes
length-digit_bytes k n h = rw length-map (length-digits_of-le 10 k n (lit≤ tt) h)

-- zero is written as one digit
pub numeral-zero : numeral 0 ≡ 48 ∷ []
unfolding numeral
numeral-zero = refl

-- any other number as its digits
pub numeral-digit_bytes : (n : ℕ) → 0 < n → numeral n ≡ digit_bytes n
unfolding numeral
numeral-digit_bytes zero h = absurd (omega arith)
numeral-digit_bytes (suc n) h = grind (arith, nat_tests)

-- one digit
numeral-one : (n : ℕ) → n < 10 → numeral n ≡ (48 + n) ∷ []
numeral-one zero h = numeral-zero
numeral-one (suc n) h =
    let e : suc n / 10 ≡ 0 = omega arith in
    let f : suc n % 10 ≡ suc n = omega arith in
    let g : digit_bytes (suc n) ≡ digit_bytes (suc n / 10) ++ (48 + suc n % 10) ∷ [] = digit_bytes-step (suc n) (omega arith) in
    let k : digit_bytes (suc n) ≡ (48 + suc n) ∷ [] = rw (e, f, digit_bytes-zero) at g in
    numeral-digit_bytes (suc n) (omega arith) ∙ k

-- one digit more
numeral-more : (n : ℕ) (ds : List ℕ) → 10 ≤ n → numeral (n / 10) ≡ ds → numeral n ≡ ds ++ (48 + n % 10) ∷ []
numeral-more n ds h e =
    numeral-digit_bytes n (omega arith) ∙ digit_bytes-step n (omega arith)
    ∙ ap (λ xs. xs ++ (48 + n % 10) ∷ []) (sym (numeral-digit_bytes (n / 10) (omega arith)) ∙ e)

-- what is printed of a number of at most 64 digits
pub numeral-decimal : (n : ℕ) → n < 10 ^ 64 → numeral n ≡ decimal n
numeral-decimal n h = decimal_by_steps_wide (λ m ds. numeral m ≡ ds) numeral-one numeral-more n h

-- one digit more at the front of a text, which ends in the digits that were put
pub digits_put : (n : ℕ) (back : List ℕ) → 0 < n → digit_bytes n ++ back ≡ digit_bytes (n / 10) ++ ((48 + n % 10) ∷ back)
digits_put n back h =
    ap (λ xs. xs ++ back) (digit_bytes-step n h) ∙ append_assoc (digit_bytes (n / 10)) ((48 + n % 10) ∷ []) back

-- a number above zero takes one digit more than its tenth
pub length-digit_bytes_step : (n : ℕ) → 0 < n → length (digit_bytes n) ≡ length (digit_bytes (n / 10)) + 1
length-digit_bytes_step n h = omega (arith, ap length (digit_bytes-step n h), length-append (digit_bytes (n / 10)) ((48 + n % 10) ∷ []))

-- a byte is put before the end of a text
pub put_before : (xs : List ℕ) (i y : ℕ) → 1 ≤ i → i ≤ length xs → drop (i - 1) (set xs (i - 1) y) ≡ y ∷ drop i xs
put_before xs i y low high =
    let e : (i - 1) + 1 ≡ i = omega arith in
    drop-set xs (i - 1) y (omega arith) ∙ ap (λ k. y ∷ drop k xs) e

-- a digit is put before the end of a text
pub digit_put : (n : ℕ) (xs : List ℕ) (i : ℕ) (whole : List ℕ) → 0 < n → 1 ≤ i → i ≤ length xs → digit_bytes n ++ drop i xs ≡ whole → digit_bytes (n / 10) ++ drop (i - 1) (set xs (i - 1) (48 + n % 10)) ≡ whole
digit_put n xs i whole h low high e =
    ap (λ back. digit_bytes (n / 10) ++ back) (put_before xs i (48 + n % 10) low high) ∙ sym (digits_put n (drop i xs) h) ∙ e

-- the digits of a number from 0 spell it
pub spelled_natural : (z : ℤ) (m : ℕ) → pos 0 ≤ℤ z → m ≡ unsigned_abs z → m < 10 ^ 64 → numeral m ≡ number z
spelled_natural (pos n) m h e small = let f : m ≡ n = e in rw (← f) (numeral-decimal m small)
spelled_natural (negsuc n) m h e small = absurd (omega (arith, ints))

-- `-` and the digits of a number below 0 spell it
pub spelled_negative : (z : ℤ) (m : ℕ) → z <ℤ pos 0 → m ≡ unsigned_abs z → m < 10 ^ 64 → 45 ∷ numeral m ≡ number z
spelled_negative (pos n) m h e small = absurd (omega (arith, ints))
spelled_negative (negsuc n) m h e small =
    let f : m ≡ n + 1 = omega (arith, ints) in
    rw (← f) (ap (λ ds. 45 ∷ ds) (numeral-decimal m small))

-- the end of a text that holds the digits is the number's spelling
pub natural_put : (z : ℤ) (m start : ℕ) (text : List ℕ) → length text ≡ 40 → pos 0 ≤ℤ z → m ≡ unsigned_abs z → m < 10 ^ 64 → drop start text ≡ numeral m → take (40 - start) (drop start text) ≡ number z
natural_put z m start text size h e small put =
    let n : length (drop start text) ≤ 40 - start = omega (arith, length-drop start text) in
    take_all (40 - start) (drop start text) n ∙ put ∙ spelled_natural z m h e small

-- the end of a text that holds `-` and the digits is the number's spelling
pub negative_put : (z : ℤ) (m start : ℕ) (text : List ℕ) → length text ≡ 40 → 1 ≤ start → start ≤ 40 → z <ℤ pos 0 → m ≡ unsigned_abs z → m < 10 ^ 64 → drop start text ≡ numeral m → take (40 - (start - 1)) (drop (start - 1) (set text (start - 1) 45)) ≡ number z
negative_put z m start text size low high h e small put =
    let n : length (drop (start - 1) (set text (start - 1) 45)) ≤ 40 - (start - 1) = omega (arith, length-drop (start - 1) (set text (start - 1) 45), length-set text (start - 1) 45) in
    take_all (40 - (start - 1)) (drop (start - 1) (set text (start - 1) 45)) n ∙ put_before text start 45 low (omega arith)
    ∙ ap (λ ds. 45 ∷ ds) put ∙ spelled_negative z m h e small
