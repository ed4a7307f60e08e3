-- How many lanes hold a node, and which.
use Rattle.std.proofs.Common.{◌≡◌, ℕ, zero, suc, ◌+◌, ◌≤◌, ◌⊎◌, inl, inr, true, cond, List, [], ◌∷◌, slice_get, Some, None, Option, count_by, refl, ap, arith}
use Rattle.std.specs.Prelude.{slice_set, replicate, Any}
use Rattle.std.proofs.lemmas.Option.{slice_get_within, get_or_from_slice_get}
use Rattle.std.proofs.lemmas.List.Sums.{sum_by-cons}
use Rattle.std.proofs.lemmas.List.Folds.{sum_by-replicate}
use Rattle.number_laws.proofs.NatSums.{count_by-at, count_by-place}
use Rattle.cable_definitions.specs.Core.{is_holding}

-- 1 for a lane that holds a node
abbrev pub one_if_holding : Option ℕ → ℕ
one_if_holding lane = cond (is_holding lane) 1 0

-- one lane was set
pub holding-set : (lanes : List (Option ℕ)) (i : ℕ) (old new : Option ℕ) → slice_get lanes i ≡ Some old
    → count_by is_holding (slice_set lanes i new) + one_if_holding old ≡ count_by is_holding lanes + one_if_holding new
holding-set [] i old new e = absurd (cc)
holding-set (x ∷ xs) zero old new e =
    let same : x ≡ old = cc in
    let t = ap one_if_holding same in
    let a = sum_by-cons one_if_holding x xs in
    let b = sum_by-cons one_if_holding new xs in
    omega (arith, t, a, b)
holding-set (x ∷ xs) (suc i) old new e =
    let a = sum_by-cons one_if_holding x xs in
    let b = sum_by-cons one_if_holding x (slice_set xs i new) in
    let rest = holding-set xs i old new e in
    omega (arith, a, b, rest)

-- where none holds a node, no lane does
pub none_held : (lanes : List (Option ℕ)) → count_by is_holding lanes ≡ 0 → (i v : ℕ) → slice_get lanes i ≡ Some (Some v) → ⊥
none_held lanes e i v f = (let some = count_by-at is_holding lanes i (Some v) f refl in omega (arith, some, e))

-- and where no lane does, none holds one
pub none_holding : (lanes : List (Option ℕ)) → ((i v : ℕ) → slice_get lanes i ≡ Some (Some v) → ⊥) → count_by is_holding lanes ≡ 0
none_holding lanes h = elim (either (count_by is_holding lanes)) [ inl e ↦ e | inr some ↦ (let at = count_by-place is_holding lanes some in absurd (by_lane at.0 at.1 at.2 at.3)) ]
  where
    either : (n : ℕ) → (n ≡ 0) ⊎ (1 ≤ n)
    either n = grind arith

    by_lane : (i : ℕ) (lane : Option ℕ) → slice_get lanes i ≡ Some lane → is_holding lane ≡ true → ⊥
    by_lane i None e f = cc
    by_lane i (Some v) e f = h i v e

-- empty lanes hold none
pub none_at_first : (count : ℕ) → count_by is_holding (replicate count None) ≡ 0
none_at_first count = (let a = sum_by-replicate one_if_holding count None in omega (arith, a))

-- a lane that holds a node is some lane
pub held_somewhere : (lanes : List (Option ℕ)) (i v : ℕ) → slice_get lanes i ≡ Some (Some v) → Any (λ lane. lane ≡ Some v) lanes
held_somewhere lanes i v e = (i, Some v, slice_get_within lanes i (Some v) e, get_or_from_slice_get lanes i (Some v) (Some v) e, refl)
