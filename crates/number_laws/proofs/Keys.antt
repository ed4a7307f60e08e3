-- Lists whose elements have a number as key: the first element of a key, and sums key by key.
use Rattle.std.proofs.Common.{◌≡◌, ◌≢◌, ℤ, pos, ◌+ℤ◌, ℕ, zero, suc, ◌≤◌, add-one, ◌+◌, ◌<◌, ◌⊎◌, inl, inr, true, false, cond, eqb, List, [], ◌∷◌, ◌++◌, length, map, sum_by, find, is_some, option_map, Option, Some, None, slice_get, refl, ap, sym, ◌∙◌, arith, eq-eqb, ne_eqb}
use Rattle.std.specs.Prelude.{◌==◌}
use Rattle.std.specs.List.{range_with_len}
use Rattle.std.proofs.lemmas.List.Sums.{sum_by-cons, get_or-le-sum_by, sum_by-le-sum_by}
use Rattle.std.proofs.lemmas.Option.{slice_get_within, get_or_from_slice_get}
use Rattle.std.proofs.lemmas.Bool.Decides.{eqb_tells}
use Rattle.std.proofs.lemmas.Int.{ints}
use Rattle.number_laws.proofs.Sums.{sum_int, sum_int-cons, sum_int-zero, sum_int-same, sum_int-plus, sum_int-one_of}
use Rattle.number_laws.proofs.NatSums.{sum_by-same, sum_by-zeros, sum_by-plus, sum_by-one_of}

-- the first element whose key is k
abbrev pub first_at : {X : Type 0} → (X → ℕ) → List X → ℕ → Option X
first_at key xs k = find (λ x. key x == k) xs

-- no two elements have one key
abbrev pub DifferentKeys : {X : Type 0} → (X → ℕ) → List X → Type 0
DifferentKeys {X} key xs = (i j : ℕ) (x y : X) → slice_get xs i ≡ Some x → slice_get xs j ≡ Some y → j < i → key y ≢ key x

-- all keys are below n
abbrev pub KeysBelow : {X : Type 0} → (X → ℕ) → ℕ → List X → Type 0
KeysBelow {X} key n xs = (i : ℕ) (x : X) → slice_get xs i ≡ Some x → key x < n

-- the value of an element, and 0 where there is none
abbrev pub value_at : {X : Type 0} → (X → ℕ) → Option X → ℕ
value_at f None = 0
value_at f (Some x) = f x

-- the first element of a key has that key
pub first_at-key : {X : Type 0} → (key : X → ℕ) (xs : List X) (k : ℕ) (x : X) → first_at key xs k ≡ Some x → key x ≡ k
first_at-key key [] k x e = absurd (cc)
first_at-key key (y ∷ ys) k x e = elim (eqb_tells (key y) k) [
  | inl t ↦ let f : Some y ≡ Some x = rw t.0 at e in let g : y ≡ x = cc in ap key (sym g) ∙ t.1
  | inr t ↦ first_at-key key ys k x (rw t.0 at e)
]

-- the first element of a key is in the list
pub first_at-place : {X : Type 0} → (key : X → ℕ) (xs : List X) (k : ℕ) (x : X) → first_at key xs k ≡ Some x → (i : ℕ) × (slice_get xs i ≡ Some x)
first_at-place key [] k x e = absurd (cc)
first_at-place key (y ∷ ys) k x e = elim (eqb_tells (key y) k) [
  | inl t ↦ (0, rw t.0 at e)
  | inr t ↦ let r = first_at-place key ys k x (rw t.0 at e) in (suc r.0, r.1)
]

-- where keys differ, an element is the first of its key
pub place-first_at : {X : Type 0} → (key : X → ℕ) (xs : List X) → DifferentKeys key xs → (i : ℕ) (x : X) → slice_get xs i ≡ Some x → first_at key xs (key x) ≡ Some x
place-first_at key [] d i x e = absurd (cc)
place-first_at key (y ∷ ys) d zero x e =
    let f : y ≡ x = cc in
    let g : eqb (key y) (key x) ≡ true = eq-eqb (key y) (key x) (ap key f) in
    rw g e
place-first_at key (y ∷ ys) d (suc i) x e =
    let n : key y ≢ key x = d (suc i) 0 x y e refl (omega arith) in
    let f : eqb (key y) (key x) ≡ false = ne_eqb (key y) (key x) n in
    rw f (place-first_at key ys (λ a b v w g h l. d (suc a) (suc b) v w g h (omega arith)) i x e)

-- the keys of the rest differ
pub DifferentKeys-rest : {X : Type 0} → (key : X → ℕ) (x : X) (xs : List X) → DifferentKeys key (x ∷ xs) → DifferentKeys key xs
DifferentKeys-rest key x xs d i j y z e f h = d (suc i) (suc j) y z e f (omega arith)

-- there is no other element of the key of the head
pub first_at-none : {X : Type 0} → (key : X → ℕ) (x : X) (xs : List X) → DifferentKeys key (x ∷ xs) → first_at key xs (key x) ≡ None
first_at-none {X} key x xs d = by_cases (first_at key xs (key x)) refl
  where
    by_cases : (o : Option X) → first_at key xs (key x) ≡ o → first_at key xs (key x) ≡ None
    by_cases None e = e
    by_cases (Some y) e =
        let r = first_at-place key xs (key x) y e in
        absurd (d (suc r.0) 0 y x r.1 refl (omega arith) (sym (first_at-key key xs (key x) y e)))

-- the value at a key, where the head is taken off
pub value_at-cons : {X : Type 0} → (key f : X → ℕ) (x : X) (xs : List X) → DifferentKeys key (x ∷ xs) → (k : ℕ)
    → value_at f (first_at key (x ∷ xs) k) ≡ cond (eqb (key x) k) (f x) 0 + value_at f (first_at key xs k)
value_at-cons key f x xs d k = elim (eqb_tells (key x) k) [
  | inl t ↦
      let n : value_at f (first_at key xs k) ≡ 0 = ap (λ (j : ℕ). value_at f (first_at key xs j)) (sym t.1) ∙ ap (value_at f) (first_at-none key x xs d) in
      let a : value_at f (first_at key (x ∷ xs) k) ≡ f x = rw t.0 refl in
      let b : cond (eqb (key x) k) (f x) 0 ≡ f x = rw t.0 refl in
      omega (arith, n, a, b)
  | inr t ↦
      let a : value_at f (first_at key (x ∷ xs) k) ≡ value_at f (first_at key xs k) = rw t.0 refl in
      let b : cond (eqb (key x) k) (f x) 0 ≡ 0 = rw t.0 refl in
      omega (arith, a, b)
]

-- where keys differ and are below n, the sum over the list is the sum over the keys below n of the value of the first element
pub sum_by-keys : {X : Type 0} → (key f : X → ℕ) (n : ℕ) (xs : List X) → DifferentKeys key xs → KeysBelow key n xs
    → sum_by f xs ≡ sum_by (λ k. value_at f (first_at key xs k)) (range_with_len 0 n)
sum_by-keys key f n [] d h = sym (sum_by-zeros (range_with_len 0 n))
sum_by-keys key f n (x ∷ xs) d h =
    let tail = sum_by-keys key f n xs (DifferentKeys-rest key x xs d) (λ i y e. h (suc i) y e) in
    let keys = range_with_len 0 n in
    let below : key x < n = h 0 x refl in
    let one = sum_by-one_of (key x) (f x) 0 n (omega arith) (omega arith) in
    let all = sum_by-same (λ k. value_at f (first_at key (x ∷ xs) k)) (λ k. cond (eqb (key x) k) (f x) 0 + value_at f (first_at key xs k)) keys (value_at-cons key f x xs d) in
    omega (arith, sum_by-cons f x xs, tail, one, all, sum_by-plus (λ k. cond (eqb (key x) k) (f x) 0) (λ k. value_at f (first_at key xs k)) keys)

-- where keys differ, a sum over the elements of a key is the value of the first
pub sum_by-one_key : {X : Type 0} → (key f : X → ℕ) (xs : List X) (k : ℕ) → DifferentKeys key xs → sum_by (λ x. cond (eqb (key x) k) (f x) 0) xs ≡ value_at f (first_at key xs k)
sum_by-one_key key f [] k d = refl
sum_by-one_key key f (x ∷ xs) k d =
    let rest = sum_by-one_key key f xs k (DifferentKeys-rest key x xs d) in
    omega (arith, sum_by-cons (λ y. cond (eqb (key y) k) (f y) 0) x xs, rest, value_at-cons key f x xs d k)

-- some number is above all keys
pub some_bound : {X : Type 0} → (key : X → ℕ) (xs : List X) → KeysBelow key (suc (sum_by key xs)) xs
some_bound key xs i x e =
    let l = get_or-le-sum_by key xs i x (slice_get_within xs i x e) in
    let g = ap key (get_or_from_slice_get xs i x x e) in
    omega (arith, l, g)

-- two lists whose first elements of each key have equal values have one sum
pub sum_by-same_keys : {X : Type 0} → (key f g : X → ℕ) (xs ys : List X) → DifferentKeys key xs → DifferentKeys key ys
    → ((k : ℕ) → value_at f (first_at key xs k) ≡ value_at g (first_at key ys k)) → sum_by f xs ≡ sum_by g ys
sum_by-same_keys key f g xs ys d c e =
    let n = suc (sum_by key xs) + suc (sum_by key ys) in
    let keys = range_with_len 0 n in
    let a = sum_by-keys key f n xs d (λ i x h. let b : key x < suc (sum_by key xs) = some_bound key xs i x h in omega arith) in
    let b = sum_by-keys key g n ys c (λ i x h. let b : key x < suc (sum_by key ys) = some_bound key ys i x h in omega arith) in
    a ∙ sum_by-same (λ k. value_at f (first_at key xs k)) (λ k. value_at g (first_at key ys k)) keys e ∙ sym b

-- an element of a list with one more is of the list, or it is the one more
pub slice_get-append_one : {X : Type 0} → (xs : List X) (y : X) (i : ℕ) (x : X) → slice_get (xs ++ y ∷ []) i ≡ Some x → (slice_get xs i ≡ Some x) ⊎ ((i ≡ length xs) × (y ≡ x))
slice_get-append_one [] y zero x e = inr (refl, cc)
slice_get-append_one [] y (suc i) x e = absurd (cc)
slice_get-append_one (z ∷ zs) y zero x e = inl e
slice_get-append_one (z ∷ zs) y (suc i) x e = elim (slice_get-append_one zs y i x e) [
  | inl h ↦ inl h
  | inr h ↦ let k : i ≡ length zs = h.0 in inr (omega arith, h.1)
]

-- keys still differ with one more element of another key
pub DifferentKeys-append_one : {X : Type 0} → (key : X → ℕ) (xs : List X) (y : X) → DifferentKeys key xs → first_at key xs (key y) ≡ None → DifferentKeys key (xs ++ y ∷ [])
DifferentKeys-append_one key xs y d n i j v w e f l = elim (slice_get-append_one xs y i v e) [
  | inl h ↦ elim (slice_get-append_one xs y j w f) [
    | inl g ↦ d i j v w h g l
    | inr g ↦ let k : j ≡ length xs = g.0 in let m = slice_get_within xs i v h in absurd (omega arith)
  ]
  | inr h ↦ elim (slice_get-append_one xs y j w f) [
    | inl g ↦ λ same. let r : first_at key xs (key w) ≡ Some w = place-first_at key xs d j w g in
        let q : first_at key xs (key w) ≡ None = ap (first_at key xs) (same ∙ ap key (sym h.1)) ∙ n in absurd (cc)
    | inr g ↦ let k : j ≡ length xs = g.0 in let m : i ≡ length xs = h.0 in absurd (omega arith)
  ]
]

-- the first element of a key in two lists one after the other
pub first_at-append : {X : Type 0} → (key : X → ℕ) (xs ys : List X) (k : ℕ) → first_at key (xs ++ ys) k ≡ cond (is_some (first_at key xs k)) (first_at key xs k) (first_at key ys k)
first_at-append key [] ys k = refl
first_at-append key (x ∷ xs) ys k = elim (eqb_tells (key x) k) [
  | inl t ↦ rw t.0 refl
  | inr t ↦ rw t.0 (first_at-append key xs ys k)
]

-- the first element of a key after a change that keeps keys
pub first_at-map : {X : Type 0} → (key : X → ℕ) (f : X → X) (xs : List X) (k : ℕ) → ((x : X) → key (f x) ≡ key x) → first_at key (map f xs) k ≡ option_map f (first_at key xs k)
first_at-map key f [] k e = refl
first_at-map key f (x ∷ xs) k e = elim (eqb_tells (key x) k) [
  | inl t ↦ rw (e x, t.0) refl
  | inr t ↦ rw (e x, t.0) (first_at-map key f xs k e)
]

-- an element of a list that was changed comes from one of the list
pub slice_get-map_source : {X Y : Type 0} → (f : X → Y) (xs : List X) (i : ℕ) (y : Y) → slice_get (map f xs) i ≡ Some y → (x : X) × (slice_get xs i ≡ Some x) × (f x ≡ y)
slice_get-map_source f [] i y e = absurd (cc)
slice_get-map_source f (x ∷ xs) zero y e = (x, refl, cc)
slice_get-map_source f (x ∷ xs) (suc i) y e = slice_get-map_source f xs i y e

-- keys still differ after a change that keeps keys
pub DifferentKeys-map : {X : Type 0} → (key : X → ℕ) (f : X → X) (xs : List X) → ((x : X) → key (f x) ≡ key x) → DifferentKeys key xs → DifferentKeys key (map f xs)
DifferentKeys-map key f xs e d i j v w g h l same =
    let a = slice_get-map_source f xs i v g in
    let b = slice_get-map_source f xs j w h in
    d i j a.0 b.0 a.1 b.1 l (sym (e b.0) ∙ ap key b.2 ∙ same ∙ ap key (sym a.2) ∙ e a.0)

-- the value with a sign of an element, and 0 where there is none
abbrev pub int_at : {X : Type 0} → (X → ℤ) → Option X → ℤ
int_at f None = pos 0
int_at f (Some x) = f x

-- the value with a sign at a key, where the head is taken off
pub int_at-cons : {X : Type 0} → (key : X → ℕ) (f : X → ℤ) (x : X) (xs : List X) → DifferentKeys key (x ∷ xs) → (k : ℕ)
    → int_at f (first_at key (x ∷ xs) k) ≡ cond (eqb (key x) k) (f x) (pos 0) +ℤ int_at f (first_at key xs k)
int_at-cons key f x xs d k = elim (eqb_tells (key x) k) [
  | inl t ↦
      let n : int_at f (first_at key xs k) ≡ pos 0 = ap (λ (j : ℕ). int_at f (first_at key xs j)) (sym t.1) ∙ ap (int_at f) (first_at-none key x xs d) in
      let a : int_at f (first_at key (x ∷ xs) k) ≡ f x = rw t.0 refl in
      let b : cond (eqb (key x) k) (f x) (pos 0) ≡ f x = rw t.0 refl in
      omega (arith, ints, n, a, b)
  | inr t ↦
      let a : int_at f (first_at key (x ∷ xs) k) ≡ int_at f (first_at key xs k) = rw t.0 refl in
      let b : cond (eqb (key x) k) (f x) (pos 0) ≡ pos 0 = rw t.0 refl in
      omega (arith, ints, a, b)
]

-- where keys differ, a sum with signs over the elements of a key is the value of the first
pub sum_int-one_key : {X : Type 0} → (key : X → ℕ) (f : X → ℤ) (xs : List X) (k : ℕ) → DifferentKeys key xs
    → sum_int (λ x. cond (eqb (key x) k) (f x) (pos 0)) xs ≡ int_at f (first_at key xs k)
sum_int-one_key key f [] k d = refl
sum_int-one_key key f (x ∷ xs) k d =
    let rest = sum_int-one_key key f xs k (DifferentKeys-rest key x xs d) in
    omega (arith, ints, sum_int-cons (λ y. cond (eqb (key y) k) (f y) (pos 0)) x xs, rest, int_at-cons key f x xs d k)

-- where keys differ and are below n, a sum with signs over the list is the sum over the keys below n of the value of the first element
pub sum_int-keys : {X : Type 0} → (key : X → ℕ) (f : X → ℤ) (n : ℕ) (xs : List X) → DifferentKeys key xs → KeysBelow key n xs
    → sum_int f xs ≡ sum_int (λ k. int_at f (first_at key xs k)) (range_with_len 0 n)
sum_int-keys key f n [] d h = let z = sum_int-zero (range_with_len 0 n) in omega (arith, ints, z)
sum_int-keys key f n (x ∷ xs) d h =
    let tail = sum_int-keys key f n xs (DifferentKeys-rest key x xs d) (λ i y e. h (suc i) y e) in
    let keys = range_with_len 0 n in
    let below : key x < n = h 0 x refl in
    let one = sum_int-one_of (key x) (f x) 0 n (omega arith) (omega arith) in
    let all =
    sum_int-same (λ k. int_at f (first_at key (x ∷ xs) k)) (λ k. cond (eqb (key x) k) (f x) (pos 0) +ℤ int_at f (first_at key xs k)) keys (int_at-cons key f x xs d) in
    omega (arith, ints, sum_int-cons f x xs, tail, one, all, sum_int-plus (λ k. cond (eqb (key x) k) (f x) (pos 0)) (λ k. int_at f (first_at key xs k)) keys)

-- a number is below all later ones, where each is below the next
below_later : (m : ℕ) (ms : List ℕ) → ((i x y : ℕ) → slice_get (m ∷ ms) i ≡ Some x → slice_get (m ∷ ms) (suc i) ≡ Some y → x < y)
    → (i x : ℕ) → slice_get ms i ≡ Some x → m < x
below_later m [] a i x e = absurd (cc)
below_later m (n ∷ ns) a zero x e = a 0 m x refl e
below_later m (n ∷ ns) a (suc i) x e =
    let first : m < n = a 0 m n refl refl in
    let later : n < x = below_later n ns (λ i. a (suc i)) i x e in
    omega arith

ascending_differ : (ms : List ℕ) → ((i x y : ℕ) → slice_get ms i ≡ Some x → slice_get ms (suc i) ≡ Some y → x < y) → DifferentKeys (λ (m : ℕ). m) ms
ascending_differ [] a i j x y e f h = absurd (cc)
ascending_differ (m ∷ ms) a zero j x y e f h = absurd (omega arith)
ascending_differ (m ∷ ms) a (suc i) zero x y e f h =
    let l : m < x = below_later m ms a i x e in
    let same : m ≡ y = cc in
    λ q. omega arith
ascending_differ (m ∷ ms) a (suc i) (suc j) x y e f h = ascending_differ ms (λ i. a (suc i)) i j x y e f (omega arith)

-- ascending numbers differ
pub DifferentKeys-ascending : (ms : List ℕ) → ((i m n : ℕ) → slice_get ms i ≡ Some m → slice_get ms (i + 1) ≡ Some n → m < n) → DifferentKeys (λ (m : ℕ). m) ms
DifferentKeys-ascending ms a = ascending_differ ms (λ i x y e f. a i x y e (rw add-one f))

-- the sum over different numbers below n is at most the sum over all numbers below n
pub sum_by-le-range : (f : ℕ → ℕ) (n : ℕ) (ms : List ℕ) → DifferentKeys (λ (m : ℕ). m) ms → KeysBelow (λ (m : ℕ). m) n ms → sum_by f ms ≤ sum_by f (range_with_len 0 n)
sum_by-le-range f n ms d b =
    let e = sum_by-keys (λ (m : ℕ). m) f n ms d b in
    let l = sum_by-le-sum_by (λ k. value_at f (first_at (λ (m : ℕ). m) ms k)) f (range_with_len 0 n) (λ k. each k (first_at (λ (m : ℕ). m) ms k) refl) in
    omega (arith, e, l)
  where
    each : (k : ℕ) (o : Option ℕ) → first_at (λ (m : ℕ). m) ms k ≡ o → value_at f o ≤ f k
    each k None e = omega arith
    each k (Some m) e = let same : f m ≡ f k = ap f (first_at-key (λ (m : ℕ). m) ms k m e) in omega (arith, same)
