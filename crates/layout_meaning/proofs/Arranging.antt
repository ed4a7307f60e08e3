-- Sorted cables.
use Rattle.std.proofs.Common.{◌≡◌, ℕ, ◌<◌, ◌≤◌, ◌⊎◌, Ordering, List, false, arith}
use Rattle.std.specs.Prelude.{AllPairs}
use Rattle.std.specs.Ordering.{nat_cmp, ordering_then, is_lt}
use Rattle.std.specs.Cmp.{IsTotalOrder}
use Rattle.std.specs.List.Sorted.{IsSortedBy}
use Rattle.std.proofs.lemmas.Cmp.{nat_cmp_total, on_total, then_total}
use Rattle.std.proofs.lemmas.List.Sorted.{ranks_by, sorted_far}
use Rattle.std.proofs.lemmas.Bool.Decides.{nat_tests}
use Rattle.cable_definitions.specs.declared.cable.Cable.{Cable}
use Rattle.layout_meaning.specs.Order.{ComesBefore}

-- by start, then end, then type
abbrev pub compared : Cable → Cable → Ordering
compared c d = ordering_then (ordering_then (nat_cmp c.from d.from) (nat_cmp c.to d.to)) (nat_cmp c.grade d.grade)

-- that is an order
compared_total : IsTotalOrder compared
compared_total = then_total (then_total (on_total (λ (c : Cable). c.from) nat_cmp_total) (on_total (λ (c : Cable). c.to) nat_cmp_total)) (on_total (λ (c : Cable). c.grade) nat_cmp_total)

-- what isn't less comes after
comes_before : (a b g a' b' g' : ℕ) → is_lt (ordering_then (ordering_then (nat_cmp a' a) (nat_cmp b' b)) (nat_cmp g' g)) ≡ false
    → (a < a') ⊎ ((a ≡ a') × ((b < b') ⊎ ((b ≡ b') × (g ≤ g'))))
comes_before a b g a' b' g' h = grind (arith, nat_tests)

-- each cable of a sorted list comes before each later one
pub arranged : (cables : List Cable) → IsSortedBy (λ c d. is_lt (compared c d)) cables → AllPairs ComesBefore cables
arranged cables up i j d less below =
    let f = sorted_far (λ c d. is_lt (compared c d)) (ranks_by compared_total (λ (c : Cable). c)) cables up i j d (omega arith) below in
    comes_before _ _ _ _ _ _ f
