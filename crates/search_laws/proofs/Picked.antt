-- Elements of filtered and numbered lists.
use Rattle.std.proofs.Common.{◌≡◌, ℕ, zero, suc, ◌+◌, Bool, true, false, cond, List, [], ◌∷◌, slice_get, Some, refl, ◌∙◌, ap, arith}
use Rattle.std.specs.Prelude.{filter}
use Rattle.std.specs.List.{enumerate_from}

-- an element of a filtered list is one of the list, and passes
pub filter_source : {X : Type 0} → (test : X → Bool) (xs : List X) (i : ℕ) (x : X) → slice_get (filter test xs) i ≡ Some x → (j : ℕ) × (slice_get xs j ≡ Some x) × (test x ≡ true)
filter_source test [] i x e = absurd (cc)
filter_source {X} test (y ∷ ys) i x e = by_case (test y) refl i e (λ k f. filter_source test ys k x f)
  where
    by_case : (b : Bool) → test y ≡ b → (k : ℕ) → slice_get (cond b (y ∷ filter test ys) (filter test ys)) k ≡ Some x
        → ((k : ℕ) → slice_get (filter test ys) k ≡ Some x → (j : ℕ) × (slice_get ys j ≡ Some x) × (test x ≡ true)) → (j : ℕ) × (slice_get (y ∷ ys) j ≡ Some x) × (test x ≡ true)
    by_case true h zero f rest = (0, f, ap test (let same : x ≡ y = cc in same) ∙ h)
    by_case true h (suc k) f rest = let r = rest k f in (suc r.0, r.1, r.2)
    by_case false h k f rest = let r = rest k f in (suc r.0, r.1, r.2)

-- an element that passes stays
pub filter_keeps : {X : Type 0} → (test : X → Bool) (xs : List X) (j : ℕ) (x : X) → slice_get xs j ≡ Some x → test x ≡ true → (i : ℕ) × (slice_get (filter test xs) i ≡ Some x)
filter_keeps test [] j x e h = absurd (cc)
filter_keeps {X} test (y ∷ ys) zero x e h = (0, ap (λ b. slice_get (cond b (y ∷ filter test ys) (filter test ys)) 0) (ap test (let same : y ≡ x = cc in same) ∙ h) ∙ e)
filter_keeps {X} test (y ∷ ys) (suc j) x e h = by_case (test y) (filter_keeps test ys j x e h)
  where
    by_case : (b : Bool) → (i : ℕ) × (slice_get (filter test ys) i ≡ Some x) → (i : ℕ) × (slice_get (cond b (y ∷ filter test ys) (filter test ys)) i ≡ Some x)
    by_case true rest = (suc rest.0, rest.1)
    by_case false rest = rest

-- an element with its number
pub enumerated : {X : Type 0} → (n : ℕ) (xs : List X) (i : ℕ) (x : X) → slice_get xs i ≡ Some x → slice_get (enumerate_from n xs) i ≡ Some (n + i, x)
enumerated n [] i x e = absurd (cc)
enumerated {X} n (y ∷ ys) zero x e = ap (λ (k : ℕ). Some (k, y)) (let q : n ≡ n + 0 = omega arith in q) ∙ ap (λ (z : X). Some (n + 0, z)) (let same : y ≡ x = cc in same)
enumerated {X} n (y ∷ ys) (suc i) x e = enumerated (n + 1) ys i x e ∙ ap (λ (k : ℕ). Some (k, x)) (let q : n + 1 + i ≡ n + suc i = omega arith in q)
