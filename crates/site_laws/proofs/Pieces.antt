-- What stands next in bytes is one piece.
use Rattle.std.proofs.Common.{◌≡◌, ℕ, ◌≤◌, ◌<◌, List, [], ◌∷◌, ◌++◌, length, take, get_or, true, not, ◌==◌, refl, sym, ap, ◌∙◌, arith}
use Rattle.std.specs.List.{AllPass}
use Rattle.std.proofs.lemmas.Bool.{not-true, eq-eqb, both_ways}
use Rattle.std.proofs.lemmas.List.{get_or_at, get_or-take, length-take-le, length-append}
use Rattle.std.proofs.lemmas.List.Elements.{All-head, All-tail}
use Rattle.cable_definitions.specs.Text.{HasNoNewline, IsNext, Piece, Whole, LongLine, CutLine, NoLine}

-- a byte that is tested not to be c isn't c
is_no : (c x : ℕ) → not (x == c) ≡ true → x ≡ c → ⊥
is_no c x n e = both_ways (x == c) (not-true (x == c) n) (eq-eqb x c e)

-- what stands before the first c is one list of bytes, and so is what stands behind it
pub first_apart : (c : ℕ) (a b r s : List ℕ) → AllPass (λ z. not (z == c)) a → AllPass (λ z. not (z == c)) b → a ++ c ∷ r ≡ b ++ c ∷ s → (a ≡ b) × (r ≡ s)
first_apart c [] [] r s h k e = (refl, cc)
first_apart c [] (y ∷ ys) r s h k e = absurd (is_no c y (All-head (λ z. not (z == c) ≡ true) y ys k) (cc))
first_apart c (x ∷ xs) [] r s h k e = absurd (is_no c x (All-head (λ z. not (z == c) ≡ true) x xs h) (cc))
first_apart c (x ∷ xs) (y ∷ ys) r s h k e =
    let g : xs ++ c ∷ r ≡ ys ++ c ∷ s = cc in
    let rest = first_apart c xs ys r s (All-tail (λ z. not (z == c) ≡ true) x xs h) (All-tail (λ z. not (z == c) ≡ true) y ys k) g in
    let f : x ≡ y = cc in
    let t : xs ≡ ys = rest.0 in
    (cc, rest.1)

-- bytes without c hold no c
pub none_within : (c : ℕ) (a b s : List ℕ) → AllPass (λ z. not (z == c)) a → a ≡ b ++ c ∷ s → ⊥
none_within c [] [] s h e = cc
none_within c [] (y ∷ ys) s h e = cc
none_within c (x ∷ xs) [] s h e = is_no c x (All-head (λ z. not (z == c) ≡ true) x xs h) (cc)
none_within c (x ∷ xs) (y ∷ ys) s h e = none_within c xs ys s (All-tail (λ z. not (z == c) ≡ true) x xs h) (cc)

-- a newline at a place of bytes that hold none
newline_in : (bytes : List ℕ) (n : ℕ) → n < length bytes → get_or bytes n 0 ≡ 10 → HasNoNewline bytes → ⊥
newline_in bytes n h e none = is_no 10 (get_or bytes n 0) (none n 0 h) e

-- bytes that begin with a short line are no long line
short_line : (bytes text rest : List ℕ) → bytes ≡ text ++ 10 ∷ rest → length text ≤ 4096 → 4097 ≤ length bytes → HasNoNewline (take 4097 bytes) → ⊥
short_line bytes text rest e short long none =
    let l : length text < 4097 = omega arith in
    let there : get_or bytes (length text) 0 ≡ 10 = rw e (get_or_at text 10 rest 0 (length text) refl) in
    newline_in (take 4097 bytes) (length text) (omega (arith, length-take-le 4097 bytes long)) (get_or-take 4097 bytes (length text) 0 l ∙ there) none

-- bytes that begin with a line are not empty
some_line : (text rest : List ℕ) → [] ≡ text ++ 10 ∷ rest → ⊥
some_line text rest e = omega (arith, ap length e, length-append text (10 ∷ rest))

-- a whole line is no other piece
only_whole : (bytes text rest left : List ℕ) (piece : Piece) → IsNext bytes (Whole text) rest → IsNext bytes piece left → Whole text ≡ piece
only_whole bytes text rest left (Whole other) h k = ap Whole (first_apart 10 text other rest left h.1 k.1 (sym h.0 ∙ k.0)).0
only_whole bytes text rest left LongLine h k = absurd (short_line bytes text rest h.0 h.2 k.0 k.1)
only_whole bytes text rest left CutLine h k = absurd (none_within 10 bytes text rest k.2 h.0)
only_whole bytes text rest left NoLine h k = absurd (some_line text rest (sym k.0 ∙ h.0))

-- what stands next is one piece
pub same_piece : (bytes : List ℕ) (piece other : Piece) (rest left : List ℕ) → IsNext bytes piece rest → IsNext bytes other left → piece ≡ other
same_piece bytes (Whole text) other rest left h k = only_whole bytes text rest left other h k
same_piece bytes LongLine (Whole text) rest left h k = sym (only_whole bytes text left rest LongLine k h)
same_piece bytes LongLine LongLine rest left h k = refl
same_piece bytes LongLine CutLine rest left h k = absurd (omega (arith, h.0, k.1))
same_piece bytes LongLine NoLine rest left h k = absurd (omega (arith, h.0, ap length k.0))
same_piece bytes CutLine (Whole text) rest left h k = sym (only_whole bytes text left rest CutLine k h)
same_piece bytes CutLine LongLine rest left h k = absurd (omega (arith, h.1, k.0))
same_piece bytes CutLine CutLine rest left h k = refl
same_piece bytes CutLine NoLine rest left h k = absurd (omega (arith, h.0, ap length k.0))
same_piece bytes NoLine (Whole text) rest left h k = sym (only_whole bytes text left rest NoLine k h)
same_piece bytes NoLine LongLine rest left h k = absurd (omega (arith, k.0, ap length h.0))
same_piece bytes NoLine CutLine rest left h k = absurd (omega (arith, k.0, ap length h.0))
same_piece bytes NoLine NoLine rest left h k = refl

-- behind a whole line one rest is left
pub same_rest : (bytes text other rest left : List ℕ) → IsNext bytes (Whole text) rest → IsNext bytes (Whole other) left → rest ≡ left
same_rest bytes text other rest left h k = (first_apart 10 text other rest left h.1 k.1 (sym h.0 ∙ k.0)).1

-- behind the end nothing is left
pub same_end : (bytes rest left : List ℕ) → IsNext bytes NoLine rest → IsNext bytes NoLine left → rest ≡ left
same_end bytes rest left h k = h.1 ∙ sym k.1
