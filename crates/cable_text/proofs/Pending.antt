-- The bytes that are pending.
use Rattle.std.proofs.Common.{◌≡◌, ℕ, ◌+◌, ◌-◌, ◌<◌, ◌≤◌, List, ◌∷◌, ◌++◌, length, take, drop, get_or, slice_index, Option, Some, None, Result, Ok, Err, IfOk, refl, sym, ◌∙◌, ap, arith, append_assoc, not, ◌==◌, true, ◌≢◌, subst}
use Rattle.std.proofs.Math.Seq.{take-add}
use Rattle.std.proofs.lemmas.List.{drop-take, drop-drop, take_all, take_at, take-append-drop, length-append, length-take-le, drop_more}
use Rattle.std.proofs.lemmas.List.Elements.{All-more, All-append}
use Rattle.std.proofs.lemmas.Bool.Decides.{nat_tests}
use Rattle.cable_definitions.specs.Text.{HasNoNewline, LongLine}
use Rattle.cable_definitions.specs.Stream.{GivesFront}
use Rattle.cable_text.specs.Lines.{BufferState, CutsLine, to_come, StandsNext}
use borrow.Rule.Slice.PartMut.{put_mid}

-- bytes that were given are pending
pub ahead-gives : (l m : Option (List ℕ)) (front more : List ℕ) → GivesFront l m more → to_come (front ++ more) m ≡ to_come front l
ahead-gives None m front more e = ap (to_come (front ++ more)) e
ahead-gives (Some bytes) m front more (rest, e, f) =
    ap (to_come (front ++ more)) f ∙ ap Some (append_assoc front more rest ∙ ap (λ xs. front ++ xs) (sym e))

-- the first bytes of a piece behind others
take_behind : (used_bytes piece past : List ℕ) (used n : ℕ) → length used_bytes ≡ used → n ≤ length piece → take (used + n) (used_bytes ++ (piece ++ past)) ≡ used_bytes ++ take n piece
take_behind used_bytes piece past used n size h =
    let split : used_bytes ++ (piece ++ past) ≡ (used_bytes ++ take n piece) ++ (drop n piece ++ past) = ap (λ xs. used_bytes ++ (xs ++ past)) (sym (take-append-drop n piece)) ∙ ap (λ xs. used_bytes ++ xs) (append_assoc (take n piece) (drop n piece) past)
    ∙ sym (append_assoc used_bytes (take n piece) (drop n piece ++ past)) in
    ap (take (used + n)) split ∙ take_at (used_bytes ++ take n piece) (drop n piece ++ past) (used + n) (omega (arith, size, length-append used_bytes (take n piece), length-take-le n piece h))

-- bytes that were pulled behind those that are used are pending
pub ahead-pulled : (storage piece : List ℕ) (used k n : ℕ) (l m : Option (List ℕ)) → used ≤ length storage → n ≤ length piece → GivesFront l m (take n piece) → to_come (take (used + n) (put_mid used k storage piece)) m ≡ to_come (take used storage) l
ahead-pulled storage piece used k n l m h small given =
    ap (λ xs. to_come xs m) (take_behind (take used storage) piece _ used n (length-take-le used storage h) small) ∙ ahead-gives l m (take used storage) (take n piece) given

-- the bytes behind a line and its newline
pub pending_cut : (items : List ℕ) (start end len : ℕ) → len < end - start → take (end - (start + (len + 1))) (drop (start + (len + 1)) items) ≡ drop (len + 1) (take (end - start) (drop start items))
pending_cut items start end len h =
    let e : end - start ≡ (len + 1) + (end - (start + (len + 1))) = omega arith in
    rw (e, drop-take (len + 1) (end - (start + (len + 1))) (drop start items), drop-drop (len + 1) start items) refl

-- one more byte that is no newline
pub HasNoNewline-more : (bytes : List ℕ) (i : ℕ) → i < length bytes → HasNoNewline (take i bytes) → get_or bytes i 0 ≢ 10 → HasNoNewline (take (i + 1) bytes)
HasNoNewline-more bytes i below so_far other =
    let e : not (get_or bytes i 0 == 10) ≡ true = grind (arith, nat_tests) in
    All-more (λ b. not (b == 10) ≡ true) bytes i 0 below so_far e

-- no byte up to the end
pub HasNoNewline-all : (bytes : List ℕ) (i : ℕ) → length bytes ≤ i → HasNoNewline (take i bytes) → HasNoNewline bytes
HasNoNewline-all bytes i past h = let e : take i bytes ≡ bytes = take_all i bytes past in subst HasNoNewline e h

-- the same of what a pull answers
pub ahead-pull : {E : Type 0} (r : Result ℕ E) (storage piece : List ℕ) (used k size : ℕ) (l m : Option (List ℕ)) → used ≤ length storage → size ≡ length piece → IfOk r (λ n. n ≤ size) → IfOk r (λ n. GivesFront l m (take n piece)) → IfOk r (λ n. to_come (take (used + n) (put_mid used k storage piece)) m ≡ to_come (take used storage) l)
ahead-pull (Ok n) storage piece used k size l m h e small given = ahead-pulled storage piece used k n l m h (omega (arith, small)) given
ahead-pull (Err f) storage piece used k size l m h e small given = tt

-- as many bytes as fit are pending, without a newline
pub Finds-long : (pending : List ℕ) (l old : Option (List ℕ)) → to_come pending l ≡ old → length pending ≡ 4097 → HasNoNewline pending → StandsNext old LongLine (to_come pending l)
Finds-long pending None old e size plain = let P : Option (List ℕ) → Type 0 = λ o. StandsNext o LongLine None in subst P e refl
Finds-long pending (Some left) old e size plain =
    let P : Option (List ℕ) → Type 0 = λ o. StandsNext o LongLine (Some (pending ++ left)) in
    let front : take 4097 (pending ++ left) ≡ pending = take_at pending left 4097 size in
    subst P e (pending ++ left, (omega (arith, length-append pending left), rw front plain), refl)

-- a place behind others without a newline
pub HasNoNewline-behind : (bytes : List ℕ) (i k : ℕ) → i ≤ length bytes → HasNoNewline (take i bytes) → HasNoNewline (take k (drop i bytes)) → HasNoNewline (take (i + k) bytes)
HasNoNewline-behind bytes i k h front back =
    rw (take-add i k bytes) (All-append (λ b. not (b == 10) ≡ true) (take i bytes) (take k (drop i bytes)) front back)

-- a front and the rest without a newline
pub HasNoNewline-whole : (bytes : List ℕ) (i : ℕ) → HasNoNewline (take i bytes) → HasNoNewline (drop i bytes) → HasNoNewline bytes
HasNoNewline-whole bytes i front back =
    subst HasNoNewline (take-append-drop i bytes) (All-append (λ b. not (b == 10) ≡ true) (take i bytes) (drop i bytes) front back)

-- a newline behind a text splits the pending bytes
pub IsCut-at : (pending : List ℕ) (new : BufferState) (k : ℕ) → k < length pending → length pending ≤ 4097 → slice_index pending k ≡ 10 → HasNoNewline (take k pending) → new.text ≡ take k pending → new.pending ≡ drop (k + 1) pending → CutsLine pending new
IsCut-at pending new k below room newline plain text rest = record {
  whole =
      let d : drop k pending ≡ 10 ∷ drop (k + 1) pending = drop_more pending k 0 below ∙ ap (λ b. b ∷ drop (k + 1) pending) newline in
      rw (text, rest) (sym (take-append-drop k pending) ∙ ap (λ xs. take k pending ++ xs) d);
  plain = rw text plain;
  short = omega (arith, ap length text, length-take-le k pending (omega arith));
}
