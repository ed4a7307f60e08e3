-- Elements of lists at a place, tests that pass, and greatest values.
use Rattle.std.proofs.Common.{◌≡◌, ℕ, zero, suc, ◌+◌, ◌<◌, ◌≤◌, ◌⊎◌, inl, inr, Bool, true, false, cond, ℤ, List, [], ◌∷◌, length, slice_get, get_or, Some, count_by, refl, ap, sym, ◌∙◌, subst, arith, eq-eqb, ne_eqb}
use Rattle.std.specs.Prelude.{◌==◌, ◌&&◌, ◌||◌, All, AllPairs, Any, fold, max}
use Rattle.std.specs.List.{list_any, enumerate_from}
use Rattle.std.proofs.lemmas.Option.{slice_get_within, get_or_from_slice_get, slice_get-get_or}
use Rattle.std.proofs.lemmas.List.Sums.{sum_by-cons}
use Rattle.std.proofs.lemmas.Bool.Decides.{eqb_tells}
use Rattle.std.proofs.lemmas.Int.{ints}
use Rattle.number_laws.proofs.Sums.{sum_int, sum_int-cons}

-- a fact at each place holds of all elements
pub all_from : {X : Type 0} → (P : X → Type 0) (xs : List X) → ((i : ℕ) (x : X) → slice_get xs i ≡ Some x → P x) → All P xs
all_from P xs f k d h = f k (get_or xs k d) (slice_get-get_or xs k d h)

-- a fact of some element, with its place
pub any_at : {X : Type 0} → (P : X → Type 0) (xs : List X) → Any P xs → (i : ℕ) × (x : X) × (slice_get xs i ≡ Some x) × P x
any_at P xs a = (a.0, a.1, slice_get-get_or xs a.0 a.1 a.2 ∙ ap Some a.3, a.4)

-- a relation between an element and each later one, at two places
pub pairs_at : {X : Type 0} → (R : X → X → Type 0) (xs : List X) → AllPairs R xs → (i j : ℕ) (x y : X) → i < j → slice_get xs i ≡ Some x → slice_get xs j ≡ Some y → R x y
pairs_at R xs a i j x y l e f =
    subst (λ z. R x z) (get_or_from_slice_get xs j y x f) (subst (λ z. R z (get_or xs j x)) (get_or_from_slice_get xs i x x e) (a i j x l (slice_get_within xs j y f)))

-- a Boolean is true or false
pub true_or_false : (b : Bool) → (b ≡ true) ⊎ (b ≡ false)
true_or_false true = inl refl
true_or_false false = inr refl

-- what isn't true is false
pub false_from : (b : Bool) → ¬ (b ≡ true) → b ≡ false
false_from true n = absurd (n refl)
false_from false n = refl

-- both of two tests pass
pub both : (a b : Bool) → (a && b) ≡ true → (a ≡ true) × (b ≡ true)
both true b e = (refl, e)
both false b e = absurd (cc)

-- two tests that pass
pub both_pass : (a b : Bool) → a ≡ true → b ≡ true → (a && b) ≡ true
both_pass a b e f = rw (e, f) refl

-- an equal number passes the test, in either order
pub eqb_swapped : (a b : ℕ) → (a == b) ≡ (b == a)
eqb_swapped a b = elim (eqb_tells a b) [
  | inl t ↦ t.0 ∙ sym (eq-eqb b a (sym t.1))
  | inr t ↦ t.0 ∙ sym (ne_eqb b a (λ e. t.1 (sym e)))
]

-- an element that passes
pub list_any-place : {X : Type 0} → (test : X → Bool) (xs : List X) → list_any test xs ≡ true → (i : ℕ) × (x : X) × (slice_get xs i ≡ Some x) × (test x ≡ true)
list_any-place test [] e = absurd (cc)
list_any-place {X} test (x ∷ xs) e = by_cases (test x) refl (list_any-place test xs)
  where
    by_cases : (b : Bool) → test x ≡ b → (list_any test xs ≡ true → (i : ℕ) × (y : X) × (slice_get xs i ≡ Some y) × (test y ≡ true))
        → (i : ℕ) × (y : X) × (slice_get (x ∷ xs) i ≡ Some y) × (test y ≡ true)
    by_cases true h f = (0, x, refl, h)
    by_cases false h f = let r = f (rw h at e) in (suc r.0, r.1, r.2, r.3)

-- an element that passes makes the test of the list pass
pub list_any-at : {X : Type 0} → (test : X → Bool) (xs : List X) (i : ℕ) (x : X) → slice_get xs i ≡ Some x → test x ≡ true → list_any test xs ≡ true
list_any-at test [] i x e t = absurd (cc)
list_any-at test (y ∷ ys) zero x e t = let f : test y ≡ true = ap test (cc) ∙ t in rw f refl
list_any-at test (y ∷ ys) (suc i) x e t = by_cases (test y) (list_any-at test ys i x e t)
  where
    by_cases : (b : Bool) → list_any test ys ≡ true → (b || list_any test ys) ≡ true
    by_cases true h = refl
    by_cases false h = h

-- a count in which no two elements pass is one at most
pub count_by-one : {X : Type 0} → (test : X → Bool) (xs : List X)
    → ((i j : ℕ) (x y : X) → slice_get xs i ≡ Some x → slice_get xs j ≡ Some y → test x ≡ true → test y ≡ true → i ≡ j) → count_by test xs ≤ 1
count_by-one test [] u = omega arith
count_by-one {X} test (x ∷ xs) u = elim (true_or_false (test x)) [
  | inl t ↦
      let c : cond (test x) (let n : ℕ = 1 in n) 0 ≡ 1 = rw t refl in
      let n = none xs (λ j y h. false_from (test y) (λ p. let q : 0 ≡ suc j = u 0 (suc j) x y refl h t p in omega arith)) in
      omega (arith, sum_by-cons (λ y. cond (test y) 1 0) x xs, c, n)
  | inr t ↦
      let c : cond (test x) (let n : ℕ = 1 in n) 0 ≡ 0 = rw t refl in
      let r = count_by-one test xs (λ i j y z g h p q. let k : suc i ≡ suc j = u (suc i) (suc j) y z g h p q in omega arith) in
      omega (arith, sum_by-cons (λ y. cond (test y) 1 0) x xs, c, r)
]
  where
    none : (ys : List X) → ((j : ℕ) (y : X) → slice_get ys j ≡ Some y → test y ≡ false) → count_by test ys ≡ 0
    none [] h = refl
    none (y ∷ ys) h =
        let c : cond (test y) (let n : ℕ = 1 in n) 0 ≡ 0 = rw (h 0 y refl) refl in
        omega (arith, sum_by-cons (λ y. cond (test y) 1 0) y ys, c, none ys (λ j. h (suc j)))

-- the numbers of the elements play no part
pub sum_int-enumerate : {X : Type 0} → (f : X → ℤ) (xs : List X) (n : ℕ) → sum_int (λ (x : ℕ × X). f x.1) (enumerate_from n xs) ≡ sum_int f xs
sum_int-enumerate f [] n = refl
sum_int-enumerate {X} f (x ∷ xs) n =
    omega (arith, ints, sum_int-cons (λ (y : ℕ × X). f y.1) (n, x) (enumerate_from (n + 1) xs), sum_int-cons f x xs, sum_int-enumerate f xs (n + 1))

-- there is an element at each place within the list
pub some_at : {X : Type 0} → (xs : List X) (i : ℕ) → i < length xs → (x : X) × (slice_get xs i ≡ Some x)
some_at [] i h = absurd (omega arith)
some_at (x ∷ xs) zero h = (x, refl)
some_at (x ∷ xs) (suc i) h = some_at xs i (omega arith)

-- a greatest value so far only grows
pub fold_max-start : {X : Type 0} → (f : X → ℕ) (most : ℕ) (xs : List X) → most ≤ fold (λ m x. max m (f x)) most xs
fold_max-start f most [] = omega arith
fold_max-start f most (x ∷ xs) = let h = fold_max-start f (max most (f x)) xs in omega (arith, h)

-- the greatest value is at least each
pub fold_max-at : {X : Type 0} → (f : X → ℕ) (most : ℕ) (xs : List X) (i : ℕ) (x : X) → slice_get xs i ≡ Some x → f x ≤ fold (λ m x. max m (f x)) most xs
fold_max-at f most [] i x e = absurd (cc)
fold_max-at f most (y ∷ ys) zero x e = let same : f y ≡ f x = ap f (cc) in let h = fold_max-start f (max most (f y)) ys in omega (arith, h, same)
fold_max-at f most (y ∷ ys) (suc i) x e = fold_max-at f (max most (f y)) ys i x e

-- a list of one element
pub one_element : {X : Type 0} → (xs : List X) → length xs ≡ 1 → (x : X) × (xs ≡ x ∷ [])
one_element [] e = absurd (omega arith)
one_element (x ∷ []) e = (x, refl)
one_element (x ∷ y ∷ ys) e = absurd (omega arith)
