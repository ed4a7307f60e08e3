-- Sums of natural numbers over lists.
use Rattle.std.proofs.Common.{◌≡◌, ℕ, zero, suc, ◌+◌, ◌*◌, ◌<◌, ◌≤◌, Bool, true, false, cond, eqb, List, [], ◌∷◌, map, sum_by, Some, slice_get, count_by, ◌≢◌, inl, inr, refl, ap, arith, ne_eqb}
use Rattle.std.specs.List.{range_with_len, list_any}
use Rattle.std.proofs.lemmas.List.Sums.{sum_by-cons, get_or-le-sum_by}
use Rattle.std.proofs.lemmas.Option.{slice_get_within, get_or_from_slice_get}
use Rattle.std.proofs.lemmas.Bool.Decides.{eqb_tells}

-- two functions that agree everywhere
pub sum_by-same : {X : Type 0} → (f g : X → ℕ) (xs : List X) → ((x : X) → f x ≡ g x) → sum_by f xs ≡ sum_by g xs
sum_by-same f g xs e = ap (λ h. sum_by h xs) (λ i x. e x i)

-- two functions that agree on the elements of the list
pub sum_by-same_on : {X : Type 0} → (f g : X → ℕ) (xs : List X) → ((i : ℕ) (x : X) → slice_get xs i ≡ Some x → f x ≡ g x) → sum_by f xs ≡ sum_by g xs
sum_by-same_on f g [] e = refl
sum_by-same_on f g (x ∷ xs) e = omega (arith, sum_by-cons f x xs, sum_by-cons g x xs, e 0 x refl, sum_by-same_on f g xs (λ i. e (suc i)))

-- terms of which each is at most the other, on the elements of the list
pub sum_by-le_on : {X : Type 0} → (f g : X → ℕ) (xs : List X) → ((i : ℕ) (x : X) → slice_get xs i ≡ Some x → f x ≤ g x) → sum_by f xs ≤ sum_by g xs
sum_by-le_on f g [] h = omega arith
sum_by-le_on f g (x ∷ xs) h = omega (arith, sum_by-cons f x xs, sum_by-cons g x xs, h 0 x refl, sum_by-le_on f g xs (λ i. h (suc i)))

-- a sum over a list that was changed
pub sum_by-map : {X Y : Type 0} → (f : Y → ℕ) (g : X → Y) (xs : List X) → sum_by f (map g xs) ≡ sum_by (λ x. f (g x)) xs
sum_by-map f g [] = refl
sum_by-map f g (x ∷ xs) = omega (arith, sum_by-cons f (g x) (map g xs), sum_by-cons (λ x. f (g x)) x xs, sum_by-map f g xs)

-- the sum of zeros
pub sum_by-zeros : {X : Type 0} → (xs : List X) → sum_by (λ (x : X). 0) xs ≡ 0
sum_by-zeros [] = refl
sum_by-zeros {X} (x ∷ xs) = omega (arith, sum_by-cons (λ (x : X). 0) x xs, sum_by-zeros xs)

-- a sum of sums
pub sum_by-plus : {X : Type 0} → (f g : X → ℕ) (xs : List X) → sum_by (λ x. f x + g x) xs ≡ sum_by f xs + sum_by g xs
sum_by-plus f g [] = refl
sum_by-plus f g (x ∷ xs) = omega (arith, sum_by-cons (λ x. f x + g x) x xs, sum_by-cons f x xs, sum_by-cons g x xs, sum_by-plus f g xs)

-- a common factor
pub sum_by-times : {X : Type 0} → (n : ℕ) (f : X → ℕ) (xs : List X) → sum_by (λ x. n * f x) xs ≡ n * sum_by f xs
sum_by-times n f [] = omega arith
sum_by-times n f (x ∷ xs) =
    let e = ap (λ t. n * t) (sum_by-cons f x xs) in
    omega (arith, sum_by-cons (λ x. n * f x) x xs, e, sum_by-times n f xs)

-- the exchange of two sums
pub sum_by-exchange : {X Y : Type 0} → (f : X → Y → ℕ) (xs : List X) (ys : List Y)
    → sum_by (λ x. sum_by (f x) ys) xs ≡ sum_by (λ y. sum_by (λ x. f x y) xs) ys
sum_by-exchange {X} {Y} f [] ys = omega (arith, sum_by-zeros {X = Y} ys)
sum_by-exchange f (x ∷ xs) ys =
    omega (
      arith,
      sum_by-cons (λ x. sum_by (f x) ys) x xs,
      sum_by-exchange f xs ys,
      sum_by-plus (f x) (λ y. sum_by (λ x. f x y) xs) ys,
      sum_by-same (λ y. sum_by (λ x. f x y) (x ∷ xs)) (λ y. f x y + sum_by (λ x. f x y) xs) ys (λ y. sum_by-cons (λ x. f x y) x xs),
    )

-- a number outside a run of numbers
pub sum_by-none_of : (k v a n : ℕ) → k < a → sum_by (λ p. cond (eqb k p) v 0) (range_with_len a n) ≡ 0
sum_by-none_of k v a zero h = refl
sum_by-none_of k v a (suc n) h =
    let e : eqb k a ≡ false = ne_eqb k a (λ q. omega arith) in
    let t : cond (eqb k a) v 0 ≡ 0 = rw e refl in
    omega (arith, sum_by-cons (λ p. cond (eqb k p) v 0) a (range_with_len (a + 1) n), t, sum_by-none_of k v (a + 1) n (omega arith))

-- one number among a run of numbers
pub sum_by-one_of : (k v a n : ℕ) → a ≤ k → k < a + n → sum_by (λ p. cond (eqb k p) v 0) (range_with_len a n) ≡ v
sum_by-one_of k v a zero h l = absurd (omega arith)
sum_by-one_of k v a (suc n) h l =
    let s = sum_by-cons (λ p. cond (eqb k p) v 0) a (range_with_len (a + 1) n) in
    elim (eqb_tells k a) [
      | inl t ↦ let f : cond (eqb k a) v 0 ≡ v = rw t.0 refl in let g : k ≡ a = t.1 in omega (arith, s, f, sum_by-none_of k v (a + 1) n (omega arith))
      | inr t ↦ let f : cond (eqb k a) v 0 ≡ 0 = rw t.0 refl in let g : k ≢ a = t.1 in omega (arith, s, f, sum_by-one_of k v (a + 1) n (omega arith) (omega arith))
    ]

-- a test counts one at most
pub one_if-most : (b : Bool) → cond b 1 0 ≤ 1
one_if-most true = omega arith
one_if-most false = omega arith

-- no element passes a test that counts none
pub count_by-none : {X : Type 0} → (test : X → Bool) (xs : List X) → list_any test xs ≡ false → count_by test xs ≡ 0
count_by-none test [] e = refl
count_by-none {X} test (x ∷ xs) e = by_cases (test x) refl (count_by-none test xs)
  where
    by_cases : (b : Bool) → test x ≡ b → (list_any test xs ≡ false → count_by test xs ≡ 0) → count_by test (x ∷ xs) ≡ 0
    by_cases true h f = absurd (let g : true ≡ false = rw h at e in cc)
    by_cases false h f =
        let c : cond (test x) (let n : ℕ = 1 in n) 0 ≡ 0 = rw h refl in
        omega (arith, sum_by-cons (λ y. cond (test y) 1 0) x xs, c, f (rw h at e))

-- some element passes a test that counts one or more
pub count_by-some : {X : Type 0} → (test : X → Bool) (xs : List X) → list_any test xs ≡ true → 1 ≤ count_by test xs
count_by-some test [] e = absurd (cc)
count_by-some {X} test (x ∷ xs) e = by_cases (test x) refl (count_by-some test xs)
  where
    by_cases : (b : Bool) → test x ≡ b → (list_any test xs ≡ true → 1 ≤ count_by test xs) → 1 ≤ count_by test (x ∷ xs)
    by_cases true h f =
        let c : cond (test x) (let n : ℕ = 1 in n) 0 ≡ 1 = rw h refl in
        omega (arith, sum_by-cons (λ y. cond (test y) 1 0) x xs, c)
    by_cases false h f =
        let c : cond (test x) (let n : ℕ = 1 in n) 0 ≡ 0 = rw h refl in
        omega (arith, sum_by-cons (λ y. cond (test y) 1 0) x xs, c, f (rw h at e))

-- where at most one element passes, the count is one if one passes
pub count_by-once : {X : Type 0} → (test : X → Bool) (xs : List X) → count_by test xs ≤ 1 → cond (list_any test xs) 1 0 ≡ count_by test xs
count_by-once test xs h = by_cases (list_any test xs) refl
  where
    by_cases : (b : Bool) → list_any test xs ≡ b → cond b 1 0 ≡ count_by test xs
    by_cases true e = omega (arith, count_by-some test xs e)
    by_cases false e = omega (arith, count_by-none test xs e)

-- a counted value
pub cond-times : (b : Bool) (n : ℕ) → cond b n 0 ≡ n * cond b 1 0
cond-times true n = omega arith
cond-times false n = omega arith

-- a test that doesn't depend on the element
pub sum_by-cond : {X : Type 0} → (b : Bool) (f : X → ℕ) (xs : List X) → sum_by (λ x. cond b (f x) 0) xs ≡ cond b (sum_by f xs) 0
sum_by-cond true f xs = refl
sum_by-cond false f xs = sum_by-zeros xs

-- where a test counts one or more, some element passes it
pub count_by-place : {X : Type 0} → (test : X → Bool) (xs : List X) → 1 ≤ count_by test xs → (i : ℕ) × (x : X) × (slice_get xs i ≡ Some x) × (test x ≡ true)
count_by-place test [] h = absurd (omega arith)
count_by-place {X} test (x ∷ xs) h = by_cases (test x) refl (count_by-place test xs)
  where
    by_cases : (b : Bool) → test x ≡ b → (1 ≤ count_by test xs → (i : ℕ) × (y : X) × (slice_get xs i ≡ Some y) × (test y ≡ true))
        → (i : ℕ) × (y : X) × (slice_get (x ∷ xs) i ≡ Some y) × (test y ≡ true)
    by_cases true e f = (0, x, refl, e)
    by_cases false e f =
        let c : cond (test x) (let n : ℕ = 1 in n) 0 ≡ 0 = rw e refl in
        let r = f (omega (arith, sum_by-cons (λ y. cond (test y) 1 0) x xs, c)) in
        (suc r.0, r.1, r.2, r.3)

-- an element that passes a test is counted
pub count_by-at : {X : Type 0} → (test : X → Bool) (xs : List X) (i : ℕ) (x : X) → slice_get xs i ≡ Some x → test x ≡ true → 1 ≤ count_by test xs
count_by-at test xs i x e t =
    let l = get_or-le-sum_by (λ y. cond (test y) 1 0) xs i x (slice_get_within xs i x e) in
    let g = ap (λ y. cond (test y) (let n : ℕ = 1 in n) 0) (get_or_from_slice_get xs i x x e) in
    let c : cond (test x) (let n : ℕ = 1 in n) 0 ≡ 1 = rw t refl in
    omega (arith, l, g, c)
