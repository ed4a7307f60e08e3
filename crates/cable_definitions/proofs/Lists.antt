-- What cables stand in a list.
use Rattle.std.proofs.Common.{◌≡◌, ◌≢◌, ℕ, zero, suc, ◌≤◌, ◌⊎◌, inl, inr, List, [], ◌∷◌, true, false, eqb, refl, ap, sym, arith}
use Rattle.std.specs.Prelude.{unwrap_or, sum_by}
use Rattle.std.proofs.lemmas.Option.{none-some, slice_get_within, get_or_from_slice_get}
use Rattle.std.proofs.lemmas.Bool.{false≢true}
use Rattle.std.proofs.lemmas.Bool.Decides.{eqb_tells}
use Rattle.std.proofs.lemmas.List.Sums.{get_or-le-sum_by}
use Rattle.cable_definitions.specs.declared.cable.Cable.{Cable}
use Rattle.cable_definitions.specs.Layout.{IsCable, Starts}

-- no cable stands in an empty list
pub none_listed : (i : ℕ) (c : Cable) → ¬ (IsCable [] i c)
none_listed i c e = none-some c e

-- what stands in a list of one cable
pub is_the_one : (d c : Cable) (i : ℕ) → IsCable (d ∷ []) i c → c ≡ d
is_the_one d c zero e = sym (ap (λ o. unwrap_or o d) e)
is_the_one d c (suc i) e = absurd (none_listed i c e)

-- where a cable starts in p, one that does stands in the list
pub listed_out : (cables : List Cable) (p : ℕ) → Starts cables p → (i : ℕ) × (c : Cable) × IsCable cables i c × (c.from ≡ p)
listed_out [] p h = absurd (false≢true h)
listed_out (d ∷ ds) p h = by_start (λ k. listed_out ds p k) (eqb_tells d.from p)
  where
    later : (i : ℕ) × (c : Cable) × IsCable ds i c × (c.from ≡ p) → (i : ℕ) × (c : Cable) × IsCable (d ∷ ds) i c × (c.from ≡ p)
    later (i, c, e, f) = (suc i, c, e, f)

    by_start : (Starts ds p → (i : ℕ) × (c : Cable) × IsCable ds i c × (c.from ≡ p)) → ((eqb d.from p ≡ true) × (d.from ≡ p)) ⊎ ((eqb d.from p ≡ false) × (d.from ≢ p)) → (i : ℕ) × (c : Cable) × IsCable (d ∷ ds) i c × (c.from ≡ p)
    by_start f (inl e) = (0, d, refl, e.1)
    by_start f (inr e) = later (f (rw e.0 at h))

-- a sum over all cables is at least the part of one
pub one_of_sum : (f : Cable → ℕ) (cables : List Cable) (i : ℕ) (c : Cable) → IsCable cables i c → f c ≤ sum_by f cables
one_of_sum f cables i c e =
    let g = get_or-le-sum_by f cables i c (slice_get_within cables i c e) in
    omega (arith, g, ap f (get_or_from_slice_get cables i c c e))
