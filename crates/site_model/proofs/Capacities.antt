-- The largest capacity of a valid site.
use Rattle.std.proofs.Common.{◌≡◌, ℕ, ◌<◌, ◌≤◌, List, [], ◌∷◌, length, get_or, take, fold, max, ap, ◌∙◌, arith}
use Rattle.std.specs.Prelude.{All}
use Rattle.std.proofs.lemmas.List.{take_all}
use Rattle.std.proofs.lemmas.List.Elements.{All-tail}
use Rattle.cable_definitions.specs.declared.site.CableType.{CableType}
use Rattle.cable_definitions.specs.Site.{Site, IsValid}
use Rattle.cable_definitions.specs.Arcs.{largest_capacity, capacity_from, capacity_of}
use Rattle.layout_laws.proofs.Typing.{start-le_greatest}
use Rattle.site_model.proofs.Costs.{type_is}

-- the greatest of capacities that are small is small
greatest_small : (types : List CableType) (start most : ℕ) → start ≤ most → All (λ t. t.capacity ≤ most) types → fold (λ most t. max most t.capacity) start types ≤ most
greatest_small [] start most h a = h
greatest_small (t ∷ types) start most h a = greatest_small types (max start t.capacity) most (either start t.capacity h (a 0 t (omega arith))) (All-tail (λ (u : CableType). u.capacity ≤ most) t types a)
  where
    either : (a b : ℕ) → a ≤ most → b ≤ most → max a b ≤ most
    either a b h k = grind arith

-- where the first of some types has a capacity, so has the greatest
greatest_some : (types : List CableType) → 1 ≤ length types → All (λ t. 1 ≤ t.capacity) types → 1 ≤ fold (λ most t. max most t.capacity) 0 types
greatest_some [] h a = absurd (omega arith)
greatest_some (t ∷ types) h a = over (start-le_greatest types (max 0 t.capacity)) (a 0 t (omega arith))
  where
    over : {most : ℕ} → max 0 t.capacity ≤ most → 1 ≤ t.capacity → 1 ≤ most
    over h k = grind arith

-- the largest capacity of a valid site is at most 10,000
pub largest_small : (s : Site) → IsValid s → largest_capacity s ≤ 10000
largest_small s v = greatest_small s.types 0 10000 (omega arith) (λ k d l. (v.types k d l).capacity)

-- and at least 1
pub largest_some : (s : Site) → IsValid s → 1 ≤ largest_capacity s
largest_some s v = greatest_some s.types (omega (arith, v.some_types)) (λ k d l. (v.types k d l).some_capacity)

-- the largest of all types that were read
pub largest_read : (s : Site) (types : List CableType) (i most : ℕ) → types ≡ s.types → length types ≤ i → most ≡ fold (λ most t. max most t.capacity) 0 (take i types) → most ≡ largest_capacity s
largest_read s types i most e past h =
    h ∙ ap (λ (ts : List CableType). fold (λ most t. max most t.capacity) 0 ts) (take_all i types past ∙ e)

-- the capacity of a type that was read
pub capacity_read : (s : Site) (types : List CableType) (grade : ℕ) (t : CableType) → types ≡ s.types → grade < length types → t ≡ get_or types grade t → t.capacity ≡ capacity_of s grade
capacity_read s types grade t e h r = ap (λ (u : CableType). u.capacity) r ∙ ap capacity_from (sym' (type_is s types grade t e (omega (arith, h, ap length e))))
  where
    sym' : {X : Type 0} {a b : X} → a ≡ b → b ≡ a
    sym' e = cc
