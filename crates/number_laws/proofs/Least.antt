-- The least and the greatest value on the elements of a list.
use Rattle.std.proofs.Common.{◌≡◌, ℕ, zero, suc, ℤ, neg_ℤ, ◌≤ℤ◌, ◌<ℤ◌, List, [], ◌∷◌, Some, slice_get, refl, ap, arith}
use Rattle.std.proofs.lemmas.Int.{ints, by_lt_z}

-- an element at which f is least
pub record IsLeastOf {X : Type 0} (f : X → ℤ) (xs : List X) (least : X) : Type 0 where
  pub place : ℕ
  pub is_element : slice_get xs place ≡ Some least
  pub below : (i : ℕ) (x : X) → slice_get xs i ≡ Some x → f least ≤ℤ f x

-- an element at which f is greatest
pub record IsGreatestOf {X : Type 0} (f : X → ℤ) (xs : List X) (greatest : X) : Type 0 where
  pub place : ℕ
  pub is_element : slice_get xs place ≡ Some greatest
  pub above : (i : ℕ) (x : X) → slice_get xs i ≡ Some x → f x ≤ℤ f greatest

-- a list that isn't empty has an element at which f is least
pub some_least : {X : Type 0} → (f : X → ℤ) (x : X) (xs : List X) → (m : X) × IsLeastOf f (x ∷ xs) m
some_least {X} f x [] = (x, record { place = 0; is_element = refl; below = alone })
  where
    alone : (i : ℕ) (y : X) → slice_get (x ∷ []) i ≡ Some y → f x ≤ℤ f y
    alone zero y e = let same : f x ≡ f y = ap f (cc) in omega (arith, ints)
    alone (suc i) y e = absurd (cc)
some_least {X} f x (y ∷ ys) = join (some_least f y ys)
  where
    join : (m : X) × IsLeastOf f (y ∷ ys) m → (m : X) × IsLeastOf f (x ∷ y ∷ ys) m
    join r = by_lt_z (f r.0) (f x)
        (λ lt. (r.0, record { place = suc r.1.place; is_element = r.1.is_element; below = rest r.0 r.1 lt }))
        (λ ge. (x, record { place = 0; is_element = refl; below = head r.0 r.1 ge }))
      where
        rest : (m : X) → IsLeastOf f (y ∷ ys) m → f m <ℤ f x → (i : ℕ) (z : X) → slice_get (x ∷ y ∷ ys) i ≡ Some z → f m ≤ℤ f z
        rest m r lt zero z e = let same : f x ≡ f z = ap f (cc) in omega (arith, ints)
        rest m r lt (suc i) z e = r.below i z e

        head : (m : X) → IsLeastOf f (y ∷ ys) m → f x ≤ℤ f m → (i : ℕ) (z : X) → slice_get (x ∷ y ∷ ys) i ≡ Some z → f x ≤ℤ f z
        head m r ge zero z e = let same : f x ≡ f z = ap f (cc) in omega (arith, ints)
        head m r ge (suc i) z e = let b = r.below i z e in omega (arith, ints)

-- a list that isn't empty has an element at which f is greatest
pub some_greatest : {X : Type 0} → (f : X → ℤ) (x : X) (xs : List X) → (m : X) × IsGreatestOf f (x ∷ xs) m
some_greatest f x xs =
    let r = some_least (λ y. neg_ℤ (f y)) x xs in
    (r.0, record { place = r.1.place; is_element = r.1.is_element; above = λ i y e. let b = r.1.below i y e in omega (arith, ints) })

-- the least value is one number
pub IsLeastOf-same : {X : Type 0} → (f : X → ℤ) (xs : List X) (m n : X) → IsLeastOf f xs m → IsLeastOf f xs n → f m ≡ f n
IsLeastOf-same f xs m n a b =
    let h = a.below b.place n b.is_element in
    let k = b.below a.place m a.is_element in
    omega (arith, ints)
