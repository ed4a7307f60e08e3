-- Writers of the items of a list, each with its number.
use Rattle.std.proofs.Common.{◌≡◌, ℕ, List, Result, Ok, Err, IsErr, sym, ◌∙◌, ap, map, take, length, get_or, ◌+◌, ◌<◌, ◌≤◌, arith}
use Rattle.std.specs.List.{concat, enumerate_from}
use Rattle.std.proofs.lemmas.List.{take_all}
use Rattle.std.proofs.lemmas.List.FromFn.{length-enumerate_from, get_or-enumerate_from}
use Rattle.cable_text.specs.declared.stream.Failed.{Failed}
use Rattle.cable_definitions.specs.Stream.{StreamState, Writes}
use Rattle.cable_text.proofs.Writers.{wrote_more, wrote_part, written_as}

-- what the item at a number writes
numbered_at : {X : Type 0} (f : ℕ → X → List ℕ) (xs : List X) (i : ℕ) (d : X) → i < length xs → f (get_or (enumerate_from 0 xs) i (i, d)).0 (get_or (enumerate_from 0 xs) i (i, d)).1 ≡ f i (get_or xs i d)
numbered_at {X} f xs i d h =
    let n : 0 + i ≡ i = omega arith in
    ap (λ (q : ℕ × X). f q.0 q.1) (get_or-enumerate_from 0 xs i (i, d) h) ∙ ap (λ (k : ℕ). f k (get_or xs i d)) n

-- a loop over a list, one item further
pub wrote_more_numbered : {X : Type 0} (f : ℕ → X → List ℕ) (xs : List X) (i : ℕ) (d : X) {u v : Unit {0}} {a b c : StreamState} → i < length xs
    → Writes {E = Failed} (Ok u) a b (concat (map (λ (q : ℕ × X). f q.0 q.1) (take i (enumerate_from 0 xs)))) → Writes {E = Failed} (Ok v) b c (f i (get_or xs i d))
    → Writes {E = Failed} (Ok v) a c (concat (map (λ (q : ℕ × X). f q.0 q.1) (take (i + 1) (enumerate_from 0 xs))))
wrote_more_numbered {X} f xs i d h p q =
    wrote_more (λ (q : ℕ × X). f q.0 q.1) (enumerate_from 0 xs) i (i, d) (omega (arith, length-enumerate_from 0 xs)) p (written_as q (numbered_at f xs i d h))

-- a loop over a list that stops at a failure
pub wrote_part_numbered : {X : Type 0} (f : ℕ → X → List ℕ) (xs : List X) (i : ℕ) (d : X) {u : Unit {0}} {e : Failed} {r : Result (Unit {0}) Failed} {a b c : StreamState} → i < length xs → IsErr r
    → Writes {E = Failed} (Ok u) a b (concat (map (λ (q : ℕ × X). f q.0 q.1) (take i (enumerate_from 0 xs)))) → Writes {A = Unit {0}} (Err e) b c (f i (get_or xs i d))
    → Writes r a c (concat (map (λ (q : ℕ × X). f q.0 q.1) (enumerate_from 0 xs)))
wrote_part_numbered {X} f xs i d h is p q =
    wrote_part (λ (q : ℕ × X). f q.0 q.1) (enumerate_from 0 xs) i (i, d) (omega (arith, length-enumerate_from 0 xs)) is p (written_as q (numbered_at f xs i d h))

-- at the end of the list all is written
pub all_numbered : {X : Type 0} (f : ℕ × X → List ℕ) (xs : List X) (i : ℕ) → length xs ≤ i → concat (map f (enumerate_from 0 xs)) ≡ concat (map f (take i (enumerate_from 0 xs)))
all_numbered f xs i h = ap (λ l. concat (map f l)) (sym (take_all i (enumerate_from 0 xs) (omega (arith, length-enumerate_from 0 xs))))
