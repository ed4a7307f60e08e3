-- The members of a row, one after another.
use Rattle.std.proofs.Common.{◌≡◌, ◌≢◌, ℕ, ◌≤◌, ◌<◌, ℤ, pos, List, [], ◌∷◌, ◌++◌, length, map, true, false, Bool, Option, None, Some, inl, inr, refl, sym, ap, ◌∙◌, subst, arith, append_assoc, All, ◌≤ℤ◌}
use Rattle.std.specs.Prelude.{◌⊎◌}
use Rattle.std.specs.Bool.{OnTrue, OnFalse}
use Rattle.std.proofs.lemmas.Int.{ints}
use Rattle.std.proofs.lemmas.List.{length-append, map-append, length-map, append-nil}
use Rattle.std.proofs.lemmas.List.Elements.{All-nil, All-cons, All-append, All-head, All-tail}
use Rattle.cable_definitions.specs.Numeral.{spelling}
use Rattle.cable_definitions.specs.Items.{Field, IsWithin}
use Rattle.line_words.specs.declared.number.Number.{Number}
use Rattle.line_words.specs.declared.number.Number.TheVariants.{Small}
use Rattle.line_words.specs.Numbers.{Is}
use Rattle.line_words.specs.Members.{up_to, Fit, AreSpelled}

-- the words at the front are spelled, and these are left
pub record AreSpelledSoFar (ws left : List (List ℕ)) (most : ℕ) (fits : Bool) (members : List ℕ) : Type 0 where
  pub seen : List (List ℕ)
  pub words_are : ws ≡ seen ++ left
  pub spelled : AreSpelled seen most fits members

-- the number, or another where there is none
abbrev value_or : ℤ → Option ℤ → ℤ
value_or d None = d
value_or d (Some z) = z

-- none of them
pub none_spelled : (ws : List (List ℕ)) (most : ℕ) → AreSpelledSoFar ws ws most true []
none_spelled ws most = record {
  seen = [];
  words_are = refl;
  spelled = record { numbers = []; words_are = refl; fit = λ e. (refl, (All-nil IsWithin, omega arith)); unfit = λ e. absurd (cc) };
}

-- a number from 0 to `most`
within_most : (m most : ℕ) → m ≤ most → IsWithin (up_to most (pos m))
within_most m most le z e = subst (λ y. (pos 0 ≤ℤ y) × (y ≤ℤ pos most)) (some_same e) (omega (arith, ints), omega (arith, ints, le))
  where
    some_same : {a b : ℤ} → Some a ≡ Some b → a ≡ b
    some_same {a} {b} h = ap (λ o. value_or a o) h

-- what holds of a list holds of its front, and of its last
front_of : (P : Field → Type 0) (xs ys : List Field) → All P (xs ++ ys) → All P xs
front_of P [] ys h = All-nil P
front_of P (x ∷ xs) ys h = All-cons P x xs (All-head P x (xs ++ ys) h) (front_of P xs ys (All-tail P x (xs ++ ys) h))

last_of : (P : Field → Type 0) (xs : List Field) (y : Field) → All P (xs ++ y ∷ []) → P y
last_of P [] y h = All-head P y [] h
last_of P (x ∷ xs) y h = last_of P xs y (All-tail P x (xs ++ y ∷ []) h)

-- numbers that fit, before a further one, and that one
fit_before : (most : ℕ) (zs : List ℤ) (z : ℤ) → Fit most (zs ++ z ∷ []) → Fit most zs × IsWithin (up_to most z) × (length zs < 256)
fit_before most zs z h =
    let all : All IsWithin (map (up_to most) zs ++ up_to most z ∷ []) = subst (All IsWithin) (map-append (up_to most) zs (z ∷ [])) h.0 in (
      (front_of IsWithin (map (up_to most) zs) (up_to most z ∷ []) all, omega (arith, h.1, length-append zs (z ∷ []))),
      last_of IsWithin (map (up_to most) zs) (up_to most z) all,
      omega (arith, h.1, length-append zs (z ∷ [])),
    )

-- the further number is the last member where all fit
now_fits : (most : ℕ) (zs : List ℤ) (z : ℤ) (number : Number) (fits now : Bool) (old new : List ℕ) → now ≡ true → Is number z → (fits ≡ true → (zs ≡ map pos old) × Fit most zs)
    → OnTrue now ((m : ℕ) × (number ≡ Small (pos m)) × (m ≤ most) × (new ≡ old ++ m ∷ [])) → OnTrue now ((fits ≡ true) × (length new ≤ 256))
    → (zs ++ z ∷ [] ≡ map pos new) × Fit most (zs ++ z ∷ [])
now_fits most zs z number fits false old new e is fit added all = absurd (cc)
now_fits most zs z number fits true old new e is fit added all =
    let f = fit all.0 in
    let small : Is (Small (pos added.0)) z = subst (λ n. Is n z) added.1 is in
    let same : z ≡ pos added.0 = small.0 in
    let numbers : zs ++ z ∷ [] ≡ map pos new =
    ap (λ ys. ys ++ z ∷ []) f.0 ∙ ap (λ y. map pos old ++ y ∷ []) same ∙ sym (map-append pos old (added.0 ∷ [])) ∙ sym (ap (map pos) added.3) in
    let last : IsWithin (up_to most z) = subst (λ y. IsWithin (up_to most y)) (sym same) (within_most added.0 most added.2) in
    let fields : All IsWithin (map (up_to most) zs ++ up_to most z ∷ []) =
    All-append IsWithin (map (up_to most) zs) (up_to most z ∷ []) f.1.0 (All-cons IsWithin (up_to most z) [] last (All-nil IsWithin)) in
    (numbers, (subst (All IsWithin) (sym (map-append (up_to most) zs (z ∷ []))) fields, omega (arith, all.1, ap length numbers, length-map new pos)))

-- otherwise they don't fit
now_unfit : (most : ℕ) (zs : List ℤ) (z : ℤ) (number : Number) (fits now : Bool) (old : List ℕ) → now ≡ false → Is number z → (fits ≡ true → (zs ≡ map pos old) × Fit most zs) → (fits ≡ false → ¬ (Fit most zs))
    → OnFalse now ((fits ≡ false) ⊎ ((length old ≡ 256) ⊎ ((y : ℤ) → Is number y → ¬ (IsWithin (up_to most y))))) → ¬ (Fit most (zs ++ z ∷ []))
now_unfit most zs z number fits true old e is fit unfit none h = absurd (cc)
now_unfit most zs z number false false old e is fit unfit none h = unfit refl (fit_before most zs z h).0
now_unfit most zs z number true false old e is fit unfit none h =
    let b = fit_before most zs z h in
    elim none [
      | inl never ↦ absurd (cc)
      | inr later ↦ elim later [
        | inl many ↦ absurd (omega (arith, b.2, many, ap length (fit refl).0, length-map old pos))
        | inr beyond ↦ beyond z is b.1
      ]
    ]

-- a further word that spells a number
pub spelled_more : (ws left rest : List (List ℕ)) (most : ℕ) (fits now : Bool) (old new : List ℕ) (word : List ℕ) (number : Number) → AreSpelledSoFar ws left most fits old → left ≡ word ∷ rest
    → (z : ℤ) × (word ≡ spelling z) × Is number z → OnTrue now ((m : ℕ) × (number ≡ Small (pos m)) × (m ≤ most) × (new ≡ old ++ m ∷ [])) → OnTrue now ((fits ≡ true) × (length new ≤ 256))
    → OnFalse now ((fits ≡ false) ⊎ ((length old ≡ 256) ⊎ ((y : ℤ) → Is number y → ¬ (IsWithin (up_to most y))))) → AreSpelledSoFar ws rest most now new
spelled_more ws left rest most fits now old new word number h e (z, spells, is) added all none =
    let zs = h.spelled.numbers in
    record {
      seen = h.seen ++ word ∷ [];
      words_are = h.words_are ∙ ap (λ us. h.seen ++ us) e ∙ sym (append_assoc h.seen (word ∷ []) rest);
      spelled = record {
        numbers = zs ++ z ∷ [];
        words_are = ap (λ us. us ++ word ∷ []) h.spelled.words_are ∙ ap (λ u. map spelling zs ++ u ∷ []) spells ∙ sym (map-append spelling zs (z ∷ []));
        fit = λ t. now_fits most zs z number fits now old new t is h.spelled.fit added all;
        unfit = λ f. now_unfit most zs z number fits now old f is h.spelled.fit h.spelled.unfit none;
      };
    }

-- where no word is left, all are spelled
pub all_spelled : (ws left : List (List ℕ)) (most : ℕ) (fits : Bool) (members : List ℕ) → AreSpelledSoFar ws left most fits members → left ≡ [] → AreSpelled ws most fits members
all_spelled ws left most fits members h e = record {
  numbers = h.spelled.numbers;
  words_are = h.words_are ∙ ap (λ us. h.seen ++ us) e ∙ append-nil h.seen ∙ h.spelled.words_are;
  fit = h.spelled.fit;
  unfit = h.spelled.unfit;
}

-- a word among words that are spelled spells a number
word_spelled : (ys zs : List ℤ) (word : List ℕ) (rest : List (List ℕ)) → map spelling ys ++ word ∷ rest ≡ map spelling zs → (z : ℤ) × (word ≡ spelling z)
word_spelled [] [] word rest e = absurd (cc)
word_spelled [] (z ∷ zs) word rest e = (z, grind (arith, e))
word_spelled (y ∷ ys) [] word rest e = absurd (cc)
word_spelled (y ∷ ys) (z ∷ zs) word rest e = word_spelled ys zs word rest (grind (arith, e))

-- where a word spells no number, the words spell no numbers
pub not_spelled : (ws left : List (List ℕ)) (most : ℕ) (fits : Bool) (members : List ℕ) (word : List ℕ) (rest : List (List ℕ)) → AreSpelledSoFar ws left most fits members → left ≡ word ∷ rest
    → ((z : ℤ) → word ≢ spelling z) → (zs : List ℤ) → ws ≢ map spelling zs
not_spelled ws left most fits members word rest h e none zs same =
    let whole : map spelling h.spelled.numbers ++ word ∷ rest ≡ map spelling zs =
    ap (λ us. us ++ word ∷ rest) (sym h.spelled.words_are) ∙ ap (λ us. h.seen ++ us) (sym e) ∙ sym h.words_are ∙ same in
    let found = word_spelled h.spelled.numbers zs word rest whole in
    none found.0 found.1

-- a list that is full has no room
pub no_room : (A B : Type 0) (n : ℕ) (added : Bool) → OnFalse added (n ≡ 256) → OnFalse added (A ⊎ ((n ≡ 256) ⊎ B))
no_room A B n true h = tt
no_room A B n false h = inr (inl h)
