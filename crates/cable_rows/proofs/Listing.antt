-- For callers too: weights that pass a test, weight by weight.
use Rattle.std.proofs.Common.{◌≡◌, ℕ, ◌+◌, ◌<◌, ◌≤◌, inl, inr, ℤ, pos, Bool, true, false, cond, List, [], ◌∷◌, ◌++◌, length, get_or, take, zero, suc, refl, ap, sym, ◌∙◌, arith}
use Rattle.std.specs.Prelude.{filter}
use Rattle.std.proofs.lemmas.List.{length-take-le}
use Rattle.std.proofs.lemmas.List.Elements.{filter_more}
use Rattle.proof_laws.proofs.Lists.{true_or_false}

-- a weight is the same whatever is asked for past the end
pub get_or-same : (weights : List (ℕ × ℤ)) (i : ℕ) (d e : ℕ × ℤ) → i < length weights → get_or weights i d ≡ get_or weights i e
get_or-same [] i d e l = absurd (omega arith)
get_or-same (w ∷ weights) zero d e l = refl
get_or-same (w ∷ weights) (suc i) d e l = get_or-same weights i d e (omega arith)

-- a weight that was read
pub weight_read : (items weights : List (ℕ × ℤ)) (i : ℕ) (d : ℕ × ℤ) → items ≡ weights → i < length weights → get_or items i d ≡ get_or weights i (get_or items i d)
weight_read items weights i d e l = ap (λ (xs : List (ℕ × ℤ)). get_or xs i d) e ∙ get_or-same weights i d (get_or items i d) l

-- one more that passes, and one more that doesn't
pub filter_passing : (test : ℕ × ℤ → Bool) (ws : List (ℕ × ℤ)) (i : ℕ) (w : ℕ × ℤ) → i < length ws → w ≡ get_or ws i w → test w ≡ true → filter test (take (i + 1) ws) ≡ filter test (take i ws) ++ w ∷ []
filter_passing test ws i w l e t =
    filter_more test ws i w l ∙ ap (λ (v : ℕ × ℤ). filter test (take i ws) ++ cond (test v) (v ∷ []) []) (sym e) ∙ ap (λ (b : Bool). filter test (take i ws) ++ cond b (w ∷ []) []) t

pub filter_failing : (test : ℕ × ℤ → Bool) (ws : List (ℕ × ℤ)) (i : ℕ) (w : ℕ × ℤ) → i < length ws → w ≡ get_or ws i w → test w ≡ false → filter test (take (i + 1) ws) ≡ filter test (take i ws)
filter_failing test ws i w l e t =
    filter_more test ws i w l ∙ ap (λ (v : ℕ × ℤ). filter test (take i ws) ++ cond (test v) (v ∷ []) []) (sym e) ∙ ap (λ (b : Bool). filter test (take i ws) ++ cond b (w ∷ []) []) t ∙ append_none (filter test (take i ws))
  where
    append_none : (xs : List (ℕ × ℤ)) → xs ++ [] ≡ xs
    append_none [] = refl
    append_none (x ∷ xs) = ap (λ (ys : List (ℕ × ℤ)). x ∷ ys) (append_none xs)

-- what passes is no longer than all
pub length-filter-le : (test : ℕ × ℤ → Bool) (ws : List (ℕ × ℤ)) → length (filter test ws) ≤ length ws
length-filter-le test [] = omega arith
length-filter-le test (w ∷ ws) = elim (true_or_false (test w)) [
  | inl e ↦ rw e (let k = length-filter-le test ws in omega (arith, k))
  | inr e ↦ rw e (let k = length-filter-le test ws in omega (arith, k))
]

-- Those that passed so far leave room for one more.
pub room_left : (test : ℕ × ℤ → Bool) (ws items passed : List (ℕ × ℤ)) (i : ℕ) → items ≡ ws → i < length items → length ws ≤ 1024 → passed ≡ filter test (take i ws) → length passed < 1024
room_left test ws items passed i e l few p =
    let same = ap (length {A = ℕ × ℤ}) e in
    let within : i < length ws = omega (arith, same, l) in
    let q = ap (length {A = ℕ × ℤ}) p in
    omega (arith, q, length-filter-le test (take i ws), length-take-le i ws (omega arith), within, few)

-- The weight that was read next was put behind those that passed, where it passes itself; or they are left as they are, where it doesn't.
pub passing_kept : (test : ℕ × ℤ → Bool) (ws items passed new : List (ℕ × ℤ)) (i : ℕ) → items ≡ ws → i < length items → passed ≡ filter test (take i ws) → test (get_or items i (0, pos 0)) ≡ true → new ≡ passed ++ get_or items i (0, pos 0) ∷ [] → new ≡ filter test (take (i + 1) ws)
passing_kept test ws items passed new i e l p t n =
    let w = get_or items i (0, pos 0) in
    let within : i < length ws = omega (arith, ap (length {A = ℕ × ℤ}) e, l) in
    n ∙ ap (λ (xs : List (ℕ × ℤ)). xs ++ w ∷ []) p ∙ sym (filter_passing test ws i w within (weight_read items ws i (0, pos 0) e within) t)

pub failing_left_out : (test : ℕ × ℤ → Bool) (ws items passed new : List (ℕ × ℤ)) (i : ℕ) → items ≡ ws → i < length items → passed ≡ filter test (take i ws) → test (get_or items i (0, pos 0)) ≡ false → new ≡ passed → new ≡ filter test (take (i + 1) ws)
failing_left_out test ws items passed new i e l p t n =
    let w = get_or items i (0, pos 0) in
    let within : i < length ws = omega (arith, ap (length {A = ℕ × ℤ}) e, l) in
    n ∙ p ∙ sym (filter_failing test ws i w within (weight_read items ws i (0, pos 0) e within) t)
