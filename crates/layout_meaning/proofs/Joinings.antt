-- One more cable of a grown part: room for it, and what it starts from and ends in.
use Rattle.std.proofs.Common.{◌≡◌, ℕ, ◌<◌, ◌≤◌, List, [], ◌∷◌, ◌++◌, length, sum_by, Option, Some, None, inl, inr, refl, arith, subst}
use Rattle.std.specs.List.{range_with_len}
use Rattle.std.proofs.lemmas.List.{length_push}
use Rattle.std.proofs.lemmas.List.Sums.{sum_by-cons, sum_by-le-sum_by}
use Rattle.std.proofs.lemmas.List.FromFn.{length-range_with_len}
use Rattle.cable_definitions.specs.declared.cable.Cable.{Cable}
use Rattle.cable_definitions.specs.declared.cable.Rule.TheVariants.{Range, Start}
use Rattle.cable_definitions.specs.Site.{Site, IsValid}
use Rattle.cable_definitions.specs.Arcs.{IsCandidate}
use Rattle.cable_definitions.specs.Layout.{IsCable, Starts}
use Rattle.cable_definitions.specs.Part.{IsGrown}
use Rattle.number_laws.proofs.Keys.{sum_by-keys, value_at, first_at, DifferentKeys, KeysBelow, slice_get-append_one}
use Rattle.layout_laws.proofs.Arcs.{StartsDiffer-append_one}
use Rattle.layout_meaning.specs.Typed.{JoinPoints}
use Rattle.std.proofs.lemmas.Option.{slice_get_within}

-- a sum of ones
ones : {X : Type 0} → (xs : List X) → sum_by (λ (x : X). 1) xs ≡ length xs
ones {X} [] = refl
ones {X} (x ∷ xs) = omega (arith, sum_by-cons (λ (y : X). 1) x xs, ones xs)

-- where keys differ and are below n, there are at most n elements
length-le_keys : {X : Type 0} → (key : X → ℕ) (n : ℕ) (xs : List X) → DifferentKeys key xs → KeysBelow key n xs → length xs ≤ n
length-le_keys {X} key n xs d b =
    let all = sum_by-keys key (λ (x : X). 1) n xs d b in
    let most = sum_by-le-sum_by (λ (k : ℕ). value_at (λ (x : X). 1) (first_at key xs k)) (λ (k : ℕ). 1) (range_with_len 0 n) (λ k. one (first_at key xs k)) in
    omega (arith, all, most, ones xs, ones (range_with_len 0 n), length-range_with_len 0 n)
  where
    one : (o : Option X) → value_at (λ (x : X). 1) o ≤ 1
    one None = omega arith
    one (Some x) = omega arith

-- a grown part joins points
pub grown_joins : (s : Site) (part : List Cable) → IsGrown s part → JoinPoints s part
grown_joins s part grown i c e =
    let range = grown Range i 0 (λ x. absurd (cc)) in
    (range.from c e, range.to c e)

-- a grown part that starts no cable in some point has room for one
pub room_for : (s : Site) (part : List Cable) (p : ℕ) → IsValid s → IsGrown s part → p < length s.points → ¬ (Starts part p) → length part < 256
room_for s part p valid grown within not_joined =
    let new : Cable = record { from = p; to = p; grade = 0 } in
    let differ = StartsDiffer-append_one part new (λ i. grown Start i 0 (λ x. absurd (cc))) not_joined in
    let most = length-le_keys (λ (c : Cable). c.from) (length s.points) (part ++ new ∷ []) differ below in
    omega (arith, most, length_push part new, valid.points_count)
  where
    below : (i : ℕ) (c : Cable) → IsCable (part ++ record { from = p; to = p; grade = 0 } ∷ []) i c → c.from < length s.points
    below i c e = elim (slice_get-append_one part (record { from = p; to = p; grade = 0 }) i c e) [
      | inl h ↦ (grown_joins s part grown i c h).0
      | inr h ↦ subst (λ (d : Cable). d.from < length s.points) h.1 within
    ]

-- a candidate arc starts in a point
pub candidate_from : (s : Site) (p q : ℕ) → IsCandidate s p q → p < length s.points
candidate_from s p q c = slice_get_within s.points p c.from c.from_is

-- and ends in one
pub candidate_to : (s : Site) (p q : ℕ) → IsCandidate s p q → q < length s.points
candidate_to s p q c = slice_get_within s.points q c.to c.to_is
