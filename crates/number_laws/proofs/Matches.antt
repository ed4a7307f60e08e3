-- Elements of one list that match elements of another: counts of one, and sums over the matches.
use Rattle.std.proofs.Common.{◌≡◌, ℕ, suc, ◌<◌, ◌≤◌, ℤ, pos, Bool, true, false, cond, List, [], ◌∷◌, count_by, slice_get, Some, refl, ◌∙◌, arith}
use Rattle.std.specs.List.{list_any}
use Rattle.std.proofs.lemmas.Int.{ints}
use Rattle.std.proofs.lemmas.List.Sums.{sum_by-cons}
use Rattle.number_laws.proofs.Sums.{sum_int, sum_int-cons, sum_int-same_on, sum_int-exchange}
use Rattle.number_laws.proofs.NatSums.{count_by-place, count_by-none, count_by-some}

not_true : (b : Bool) → (b ≡ true → ⊥) → b ≡ false
not_true true n = absurd (n refl)
not_true false n = refl

-- where no two elements pass, at most one does
pub count_by-at_most_one : {X : Type 0} → (test : X → Bool) (xs : List X)
    → ((i j : ℕ) (x y : X) → slice_get xs i ≡ Some x → slice_get xs j ≡ Some y → i < j → test x ≡ true → test y ≡ true → ⊥) → count_by test xs ≤ 1
count_by-at_most_one test [] n = omega arith
count_by-at_most_one {X} test (x ∷ xs) n = by_cases (test x) refl (count_by-at_most_one test xs (λ i j y z e f h. n (suc i) (suc j) y z e f (omega arith)))
  where
    by_cases : (b : Bool) → test x ≡ b → count_by test xs ≤ 1 → count_by test (x ∷ xs) ≤ 1
    by_cases true e h =
        let c : cond (test x) (let n : ℕ = 1 in n) 0 ≡ 1 = rw e refl in
        let none = count_by-none test xs (not_true (list_any test xs) (λ t.
        let r = count_by-place test xs (count_by-some test xs t) in
        n 0 (suc r.0) x r.1 refl r.2 (omega arith) e r.3)) in
        omega (arith, sum_by-cons (λ y. cond (test y) 1 0) x xs, c, none)
    by_cases false e h =
        let c : cond (test x) (let n : ℕ = 1 in n) 0 ≡ 0 = rw e refl in
        omega (arith, sum_by-cons (λ y. cond (test y) 1 0) x xs, c, h)

-- a sum of one value over the elements that pass, where at most one does
pub sum_int-one_match : {X : Type 0} → (test : X → Bool) (z : ℤ) (xs : List X) → count_by test xs ≤ 1 → sum_int (λ x. cond (test x) z (pos 0)) xs ≡ cond (list_any test xs) z (pos 0)
sum_int-one_match test z [] h = refl
sum_int-one_match {X} test z (x ∷ xs) h = by_cases (test x) refl (sum_int-one_match test z xs)
  where
    by_cases : (b : Bool) → test x ≡ b → (count_by test xs ≤ 1 → sum_int (λ y. cond (test y) z (pos 0)) xs ≡ cond (list_any test xs) z (pos 0))
        → sum_int (λ y. cond (test y) z (pos 0)) (x ∷ xs) ≡ cond (list_any test (x ∷ xs)) z (pos 0)
    by_cases true e f =
        let c : cond (test x) (let n : ℕ = 1 in n) 0 ≡ 1 = rw e refl in
        let all = sum_by-cons (λ y. cond (test y) 1 0) x xs in
        let none = not_true (list_any test xs) (λ t. let s = count_by-some test xs t in omega (arith, all, c, s)) in
        let rest : sum_int (λ y. cond (test y) z (pos 0)) xs ≡ pos 0 = f (omega (arith, all, c)) ∙ rw none refl in
        let here : cond (test x) z (pos 0) ≡ z = rw e refl in
        let goal : cond (list_any test (x ∷ xs)) z (pos 0) ≡ z = rw e refl in
        omega (arith, ints, sum_int-cons (λ y. cond (test y) z (pos 0)) x xs, rest, here, goal)
    by_cases false e f =
        let c : cond (test x) (let n : ℕ = 1 in n) 0 ≡ 0 = rw e refl in
        let all = sum_by-cons (λ y. cond (test y) 1 0) x xs in
        let rest = f (omega (arith, all, c)) in
        let here : cond (test x) z (pos 0) ≡ pos 0 = rw e refl in
        let goal : cond (list_any test (x ∷ xs)) z (pos 0) ≡ cond (list_any test xs) z (pos 0) = rw e refl in
        omega (arith, ints, sum_int-cons (λ y. cond (test y) z (pos 0)) x xs, rest, here, goal)

-- where exactly one element of xs matches each element of ys, a sum over all matches is the sum over ys
pub sum_int-matches : {X Y : Type 0} → (matches : X → Y → Bool) (f : Y → ℤ) (xs : List X) (ys : List Y)
    → ((j : ℕ) (y : Y) → slice_get ys j ≡ Some y → count_by (λ x. matches x y) xs ≡ 1)
    → sum_int (λ x. sum_int (λ y. cond (matches x y) (f y) (pos 0)) ys) xs ≡ sum_int f ys
sum_int-matches matches f xs ys h =
    sum_int-exchange (λ x y. cond (matches x y) (f y) (pos 0)) xs ys
    ∙ sum_int-same_on (λ y. sum_int (λ x. cond (matches x y) (f y) (pos 0)) xs) f ys (λ j y e.
    let one = h j y e in
    sum_int-one_match (λ x. matches x y) (f y) xs (omega arith) ∙ some (list_any (λ x. matches x y) xs) (f y) (λ n. let z = count_by-none (λ x. matches x y) xs n in omega arith))
  where
    some : (b : Bool) (z : ℤ) → (b ≡ false → ⊥) → cond b z (pos 0) ≡ z
    some true z n = refl
    some false z n = absurd (n refl)
