-- Sums of the shares of the first arcs.
use Rattle.std.proofs.Common.{◌≡◌, ℕ, suc, ◌+◌, ◌≤◌, ◌<◌, Bool, cond, List, [], ◌∷◌, ◌++◌, Some, slice_get, take, length, refl, ap, ap₂, sym, ◌∙◌, arith}
use Rattle.std.proofs.lemmas.List.{take_more, take_all}
use Rattle.std.proofs.lemmas.List.{length-take}
use Rattle.std.proofs.lemmas.Option.{slice_get_within, get_or_from_slice_get}
use Rattle.std.specs.Prelude.{min}
use Rattle.cable_definitions.specs.declared.cable.Arc.{Arc}
use Rattle.bound_shares.specs.Shares.{shares_where}
use Rattle.flow_laws.proofs.ShareSums.{shares_where-cons}

-- the sum over the first k arcs that pass the test
abbrev pub sum_upto : (Arc → Bool) → List Arc → List ℕ → ℕ → ℕ
sum_upto test arcs shares k = shares_where test (take k arcs) (take k shares)

-- the sum with one more arc behind
pub shares_where-push : (test : Arc → Bool) (arcs : List Arc) (shares : List ℕ) (arc : Arc) (u : ℕ) → length shares ≡ length arcs
    → shares_where test (arcs ++ arc ∷ []) (shares ++ u ∷ []) ≡ shares_where test arcs shares + cond (test arc) u 0
shares_where-push test [] [] arc u e = omega (arith, shares_where-cons test arc [] u [])
shares_where-push test [] (x ∷ shares) arc u e = absurd (omega (arith, e))
shares_where-push test (a ∷ arcs) [] arc u e = absurd (omega (arith, e))
shares_where-push test (a ∷ arcs) (x ∷ shares) arc u e =
    omega (
      arith,
      shares_where-cons test a (arcs ++ arc ∷ []) x (shares ++ u ∷ []),
      shares_where-cons test a arcs x shares,
      shares_where-push test arcs shares arc u (omega (arith, e)),
    )

-- one more arc
pub sum_upto-more : (test : Arc → Bool) (arcs : List Arc) (shares : List ℕ) (k : ℕ) (arc : Arc) (u : ℕ) → slice_get arcs k ≡ Some arc → slice_get shares k ≡ Some u
    → sum_upto test arcs shares (k + 1) ≡ sum_upto test arcs shares k + cond (test arc) u 0
sum_upto-more test arcs shares k arc u e f =
    ap₂ (λ xs ys. shares_where test xs ys) (first arcs arc e) (first shares u f)
    ∙ shares_where-push test (take k arcs) (take k shares) arc u same
  where
    first : {X : Type 0} → (xs : List X) (x : X) → slice_get xs k ≡ Some x → take (k + 1) xs ≡ take k xs ++ x ∷ []
    first xs x h = take_more xs k x (slice_get_within xs k x h) ∙ ap (λ y. take k xs ++ y ∷ []) (get_or_from_slice_get xs k x x h)

    within_arcs : k < length arcs
    within_arcs = slice_get_within arcs k arc e

    within_shares : k < length shares
    within_shares = slice_get_within shares k u f

    all_of : (n : ℕ) → k < n → min k n ≡ k
    all_of n h = grind (arith, h)

    same : length (take k shares) ≡ length (take k arcs)
    same = (length-take k shares ∙ all_of (length shares) within_shares) ∙ sym (length-take k arcs ∙ all_of (length arcs) within_arcs)

-- all arcs
pub sum_upto-all : (test : Arc → Bool) (arcs : List Arc) (shares : List ℕ) (k : ℕ) → length shares ≡ length arcs → length arcs ≤ k
    → sum_upto test arcs shares k ≡ shares_where test arcs shares
sum_upto-all test arcs shares k e h = ap₂ (λ xs ys. shares_where test xs ys) (take_all k arcs h) (take_all k shares (omega (arith, e, h)))

-- no arc
pub sum_upto-none : (test : Arc → Bool) (arcs : List Arc) (shares : List ℕ) → sum_upto test arcs shares 0 ≡ 0
sum_upto-none test arcs shares = refl

-- two tests that agree on all arcs
pub shares_where-same : (first second : Arc → Bool) (arcs : List Arc) (shares : List ℕ) → ((a : ℕ) (arc : Arc) → slice_get arcs a ≡ Some arc → first arc ≡ second arc)
    → shares_where first arcs shares ≡ shares_where second arcs shares
shares_where-same first second [] shares h = refl
shares_where-same first second (x ∷ arcs) [] h = refl
shares_where-same first second (x ∷ arcs) (u ∷ shares) h =
    omega (
      arith,
      shares_where-cons first x arcs u shares,
      shares_where-cons second x arcs u shares,
      shares_where-same first second arcs shares (λ a. h (suc a)),
      ap (λ (b : Bool). cond b u 0) (h 0 x refl),
    )
