-- Writers that stop at the first failure, and lines from their fields.
use Rattle.std.proofs.Common.{◌≡◌, ℕ, List, [], ◌∷◌, ◌++◌, Result, Ok, Err, IsErr, refl, sym, ◌∙◌, ap, append_assoc, map, take, drop, length, get_or, zero, suc, ◌+◌, ◌<◌, arith}
use Rattle.std.specs.List.{concat}
use Rattle.std.proofs.lemmas.List.{append-nil}
use Rattle.cable_text.specs.declared.stream.Failed.{Failed}
use Rattle.cable_definitions.specs.Stream.{StreamState, Writes}
use Rattle.cable_text.proofs.Writing.{Writes-stop, Writes-then}
use Rattle.cable_definitions.specs.Text.{words, line}
use Rattle.cable_text.specs.declared.line.Field.{Field}
use Rattle.cable_text.specs.Fields.{field_text, spaced}

-- a writer that hands on a failure has written a first part of the whole text
pub stopped : {r : Result (Unit {0}) Failed} {e : Failed} {a b : StreamState} {first whole : List ℕ} (second : List ℕ) → IsErr r → Writes {A = Unit {0}} (Err e) a b first → whole ≡ first ++ second → Writes r a b whole
stopped {r = Ok u} second h p e = cc
stopped {r = Err f} {whole} second h p e = rw e (Writes-stop f second p)

-- the same text under another name
pub written_as : {r : Result (Unit {0}) Failed} {a b : StreamState} {first whole : List ℕ} → Writes r a b first → whole ≡ first → Writes r a b whole
written_as p e = rw e p

-- what a list writes up to a place, at the place, and behind it
concat-at : {X : Type 0} (f : X → List ℕ) (xs : List X) (i : ℕ) (d : X) → i < length xs → concat (map f xs) ≡ concat (map f (take i xs)) ++ (f (get_or xs i d) ++ concat (map f (drop (i + 1) xs)))
concat-at f [] i d h = absurd (omega arith)
concat-at f (x ∷ xs) zero d h = refl
concat-at f (x ∷ xs) (suc i) d h =
    let e : concat (map f xs) ≡ concat (map f (take i xs)) ++ (f (get_or xs i d) ++ concat (map f (drop (i + 1) xs))) = concat-at f xs i d (omega arith) in
    let k : suc i + 1 ≡ suc (i + 1) = omega arith in
    rw k (ap (λ l. f x ++ l) e ∙ sym (append_assoc (f x) (concat (map f (take i xs))) (f (get_or xs i d) ++ concat (map f (drop (i + 1) xs)))))

-- what a list writes up to the next place
concat-take : {X : Type 0} (f : X → List ℕ) (xs : List X) (i : ℕ) (d : X) → i < length xs → concat (map f (take (i + 1) xs)) ≡ concat (map f (take i xs)) ++ f (get_or xs i d)
concat-take f [] i d h = absurd (omega arith)
concat-take f (x ∷ xs) zero d h = append-nil (f x)
concat-take f (x ∷ xs) (suc i) d h =
    let k : suc i + 1 ≡ suc (i + 1) = omega arith in
    rw k (ap (λ l. f x ++ l) (concat-take f xs i d (omega arith)) ∙ sym (append_assoc (f x) (concat (map f (take i xs))) (f (get_or xs i d))))

-- a loop over a list, one item further
pub wrote_more : {X : Type 0} (f : X → List ℕ) (xs : List X) (i : ℕ) (d : X) {u v : Unit {0}} {a b c : StreamState} → i < length xs → Writes {E = Failed} (Ok u) a b (concat (map f (take i xs))) → Writes {E = Failed} (Ok v) b c (f (get_or xs i d)) → Writes {E = Failed} (Ok v) a c (concat (map f (take (i + 1) xs)))
wrote_more f xs i d h p q = rw (concat-take f xs i d h) (Writes-then p q)

-- a loop over a list that stops at a failure
pub wrote_part : {X : Type 0} (f : X → List ℕ) (xs : List X) (i : ℕ) (d : X) {u : Unit {0}} {e : Failed} {r : Result (Unit {0}) Failed} {a b c : StreamState} → i < length xs → IsErr r → Writes {E = Failed} (Ok u) a b (concat (map f (take i xs))) → Writes {A = Unit {0}} (Err e) b c (f (get_or xs i d)) → Writes r a c (concat (map f xs))
wrote_part f xs i d h is p q =
    stopped (concat (map f (drop (i + 1) xs))) is (Writes-then p q)
    (concat-at f xs i d h ∙ sym (append_assoc (concat (map f (take i xs))) (f (get_or xs i d)) (concat (map f (drop (i + 1) xs)))))

-- a word and the fields behind it
words-fields : (w : List ℕ) (fields : List Field) → words (w ∷ map field_text fields) ≡ w ++ concat (map spaced fields)
words-fields w [] = sym (append-nil w)
words-fields w (f ∷ fs) = ap (λ l. w ++ 32 ∷ l) (words-fields (field_text f) fs)

-- a line is its first word, the fields with a space before each, and the newline
pub line-fields : (w : List ℕ) (fields : List Field) → line (w ∷ map field_text fields) ≡ w ++ (concat (map spaced fields) ++ 10 ∷ [])
line-fields w fields = ap (λ l. l ++ 10 ∷ []) (words-fields w fields) ∙ append_assoc w (concat (map spaced fields)) (10 ∷ [])

-- the same over items that are read from the list
pub wrote_more_of : {X : Type 0} (f : X → List ℕ) (xs : List X) (i : ℕ) (x : X) {u v : Unit {0}} {a b c : StreamState} → i < length xs → x ≡ get_or xs i x → Writes {E = Failed} (Ok u) a b (concat (map f (take i xs))) → Writes {E = Failed} (Ok v) b c (f x) → Writes {E = Failed} (Ok v) a c (concat (map f (take (i + 1) xs)))
wrote_more_of f xs i x h e p q = wrote_more f xs i x h p (written_as q (ap f (sym e)))

pub wrote_part_of : {X : Type 0} (f : X → List ℕ) (xs : List X) (i : ℕ) (x : X) {u : Unit {0}} {e : Failed} {r : Result (Unit {0}) Failed} {a b c : StreamState} → i < length xs → x ≡ get_or xs i x → IsErr r → Writes {E = Failed} (Ok u) a b (concat (map f (take i xs))) → Writes {A = Unit {0}} (Err e) b c (f x) → Writes r a c (concat (map f xs))
wrote_part_of f xs i x h same is p q = wrote_part f xs i x h is p (written_as q (ap f (sym same)))

-- a first part of a text is one of a longer text
pub longer : {r : Result (Unit {0}) Failed} {a b : StreamState} {first : List ℕ} (second : List ℕ) → IsErr r → Writes r a b first → Writes r a b (first ++ second)
longer {r = Ok u} second h p = cc
longer {r = Err f} second h p = Writes-stop f second p

-- a failure that is handed on
pub handed : {r : Result (Unit {0}) Failed} {e : Failed} {a b : StreamState} {first : List ℕ} → IsErr r → Writes {A = Unit {0}} (Err e) a b first → Writes r a b first
handed {first} h p = stopped [] h p (sym (append-nil first))
