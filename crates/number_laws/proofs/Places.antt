-- Elements of a list by their places, and sums over the numbered elements.
use Rattle.std.proofs.Common.{◌≡◌, ℕ, zero, suc, ◌+◌, ◌<◌, false, true, cond, eqb, Option, Some, None, option_map, length, ap, List, [], ◌∷◌, sum_by, slice_get, refl, arith, ne_eqb, eq-eqb}
use Rattle.std.specs.List.{enumerate_from, range_with_len}
use Rattle.std.proofs.lemmas.List.Sums.{sum_by-cons}
use Rattle.number_laws.proofs.Keys.{value_at}

-- one element stands at a place
pub same_item : {X : Type 0} → (xs : List X) (i : ℕ) (x y : X) → slice_get xs i ≡ Some x → slice_get xs i ≡ Some y → x ≡ y
same_item xs i x y e f = cc

-- no element has a number below the first
pub sum_by-place_before : {X : Type 0} → (f : X → ℕ) (xs : List X) (n k : ℕ) → k < n → sum_by (λ (x : ℕ × X). cond (eqb x.0 k) (f x.1) 0) (enumerate_from n xs) ≡ 0
sum_by-place_before f [] n k h = refl
sum_by-place_before {X} f (x ∷ xs) n k h =
    let e : eqb n k ≡ false = ne_eqb n k (λ q. omega arith) in
    let t : cond (eqb n k) (f x) 0 ≡ 0 = rw e refl in
    omega (arith, sum_by-cons (λ (y : ℕ × X). cond (eqb y.0 k) (f y.1) 0) (n, x) (enumerate_from (n + 1) xs), t, sum_by-place_before f xs (n + 1) k (omega arith))

-- one element has the number k, the one at that place
pub sum_by-place : {X : Type 0} → (f : X → ℕ) (xs : List X) (n i k : ℕ) → k ≡ n + i
    → sum_by (λ (x : ℕ × X). cond (eqb x.0 k) (f x.1) 0) (enumerate_from n xs) ≡ value_at f (slice_get xs i)
sum_by-place f [] n i k e = refl
sum_by-place {X} f (x ∷ xs) n zero k e =
    let same : eqb n k ≡ true = eq-eqb n k (omega arith) in
    let t : cond (eqb n k) (f x) 0 ≡ f x = rw same refl in
    omega (arith, sum_by-cons (λ (y : ℕ × X). cond (eqb y.0 k) (f y.1) 0) (n, x) (enumerate_from (n + 1) xs), t, sum_by-place_before f xs (n + 1) k (omega arith))
sum_by-place {X} f (x ∷ xs) n (suc i) k e =
    let other : eqb n k ≡ false = ne_eqb n k (λ q. omega arith) in
    let t : cond (eqb n k) (f x) 0 ≡ 0 = rw other refl in
    omega (arith, sum_by-cons (λ (y : ℕ × X). cond (eqb y.0 k) (f y.1) 0) (n, x) (enumerate_from (n + 1) xs), t, sum_by-place f xs (n + 1) i k (omega arith))

-- a numbered element stands at its number in the list
pub slice_get-enumerate_from : {X : Type 0} → (n : ℕ) (xs : List X) (i : ℕ) (x : ℕ × X) → slice_get (enumerate_from n xs) i ≡ Some x → (x.0 ≡ n + i) × (slice_get xs i ≡ Some x.1)
slice_get-enumerate_from n [] i x e = absurd (cc)
slice_get-enumerate_from {X} n (y ∷ ys) zero x e =
    let same : Some (n, y) ≡ Some x = e in
    let number : n ≡ x.0 = ap (λ (o : Option (ℕ × X)). number_from n o) same in
    let element : Some y ≡ Some x.1 = ap (λ (o : Option (ℕ × X)). option_map (λ (p : ℕ × X). p.1) o) same in
    (omega arith, element)
  where
    number_from : ℕ → Option (ℕ × X) → ℕ
    number_from d None = d
    number_from d (Some p) = p.0
slice_get-enumerate_from n (y ∷ ys) (suc i) x e =
    let r = slice_get-enumerate_from (n + 1) ys i x e in
    let k : x.0 ≡ n + 1 + i = r.0 in
    (omega arith, r.1)

-- the sum over numbered elements of what depends on their numbers is the sum over a run of numbers
pub sum_by-numbers : {X : Type 0} → (f : ℕ → ℕ) (n : ℕ) (xs : List X) → sum_by (λ (x : ℕ × X). f x.0) (enumerate_from n xs) ≡ sum_by f (range_with_len n (length xs))
sum_by-numbers f n [] = refl
sum_by-numbers {X} f n (x ∷ xs) =
    let a = sum_by-cons (λ (y : ℕ × X). f y.0) (n, x) (enumerate_from (n + 1) xs) in
    let b = sum_by-cons f n (range_with_len (n + 1) (length xs)) in
    omega (arith, a, b, sum_by-numbers f (n + 1) xs)
