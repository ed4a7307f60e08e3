-- The cheapest type, type by type.
use Rattle.std.proofs.Common.{◌≡◌, ℕ, ◌+◌, ◌<◌, ◌≤◌, List, length, get_or, Option, Some, None, inl, inr, ◌⊎◌, below_more, ap, arith}
use Rattle.std.proofs.lemmas.Bool.{cases_lt}
use Rattle.cable_definitions.specs.declared.site.CableType.{CableType}
use Rattle.cable_definitions.specs.Site.{Site, IsValid}
use Rattle.cable_definitions.specs.Arcs.{Bears, capacity_of, capacity_from, cost_of}
use Rattle.site_model.proofs.Costs.{type_is, type_at}
use Rattle.site_model.specs.Best.{IsCheapestBelow, IsBestBelow}

-- the capacity of a type that was read
capacity_read : (s : Site) (types : List CableType) (grade : ℕ) (d : CableType) → types ≡ s.types → grade < length s.types → capacity_of s grade ≡ (get_or types grade d).capacity
capacity_read s types grade d e h = ap capacity_from (type_is s types grade d e h)

-- the type that was read bears the load
pub bears_read : (s : Site) (types : List CableType) (grade load : ℕ) (d : CableType) → types ≡ s.types → grade < length s.types → load ≤ (get_or types grade d).capacity → Bears s grade load
bears_read s types grade load d e h l = record { listed = h; enough = omega (arith, capacity_read s types grade d e h) }

-- a load that a listed type bears is at most 10,000
pub load_small : (s : Site) (types : List CableType) (grade load : ℕ) (d : CableType) → IsValid s → types ≡ s.types → grade < length s.types → load ≤ (get_or types grade d).capacity → load ≤ 10000
load_small s types grade load d v e h l = omega (arith, (type_at s grade _ v (type_is s types grade d e h)).capacity)

-- a type that doesn't bear the load changes nothing
pub unborne : (s : Site) (from to load grade : ℕ) (best : Option (ℕ × ℕ)) → ¬ (Bears s grade load) → IsBestBelow s from to load grade best → IsBestBelow s from to load (grade + 1) best
unborne s from to load grade None n h = below_more (λ (g : ℕ). ¬ (Bears s g load)) grade h n
unborne s from to load grade (Some best) n h = record {
  below = omega (arith, h.below);
  bears = h.bears;
  cost = h.cost;
  least = below_more (λ (g : ℕ). Bears s g load → (best.1 < cost_of s from to g load) ⊎ ((best.1 ≡ cost_of s from to g load) × (best.0 ≤ g))) grade h.least (λ b. absurd (n b));
}

-- what a best type says of another type
abbrev Beats : Site → ℕ → ℕ → ℕ → ℕ → ℕ → ℕ → Type 0
Beats s from to load best cost other = Bears s other load → (cost < cost_of s from to other load) ⊎ ((cost ≡ cost_of s from to other load) × (best ≤ other))

-- a later type that isn't cheaper changes nothing
pub dearer : (s : Site) (from to load grade cost best least : ℕ) → cost ≡ cost_of s from to grade load → least ≤ cost → IsCheapestBelow s from to load grade best least
    → IsCheapestBelow s from to load (grade + 1) best least
dearer s from to load grade cost best least e l h = record {
  below = omega (arith, h.below);
  bears = h.bears;
  cost = h.cost;
  least = below_more (Beats s from to load best least) grade h.least (λ b. at_most (cost_of s from to grade load) (omega (arith, e)) (cases_lt least (cost_of s from to grade load)));
}
  where
    at_most : (cost : ℕ) → least ≤ cost → (least < cost) ⊎ (cost ≤ least) → (least < cost) ⊎ ((least ≡ cost) × (best ≤ grade))
    at_most cost l (inl k) = inl k
    at_most cost l (inr k) = inr (omega arith, omega (arith, h.below))

-- a later type that is cheaper is the best
pub cheaper : (s : Site) (from to load grade cost best least : ℕ) → Bears s grade load → cost ≡ cost_of s from to grade load → cost < least → IsCheapestBelow s from to load grade best least
    → IsCheapestBelow s from to load (grade + 1) grade cost
cheaper s from to load grade cost best least b e l h = record {
  below = omega arith;
  bears = b;
  cost = e;
  least = below_more (Beats s from to load grade cost) grade (λ g k c. inl (below (cost_of s from to g load) (h.least g k c))) (λ c. inr (e, omega arith));
}
  where
    below : {g : ℕ} → (other : ℕ) → (least < other) ⊎ ((least ≡ other) × (best ≤ g)) → cost < other
    below other (inl k) = omega arith
    below other (inr k) = omega (arith, k.0)

-- the first type that bears the load is the best
pub first_bearing : (s : Site) (from to load grade cost : ℕ) → Bears s grade load → cost ≡ cost_of s from to grade load → ((g : ℕ) → g < grade → ¬ (Bears s g load))
    → IsCheapestBelow s from to load (grade + 1) grade cost
first_bearing s from to load grade cost b e h = record {
  below = omega arith;
  bears = b;
  cost = e;
  least = below_more (Beats s from to load grade cost) grade (λ g k c. absurd (h g k c)) (λ c. inr (e, omega arith));
}
