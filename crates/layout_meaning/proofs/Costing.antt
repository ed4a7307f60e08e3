-- Candidates, capacities and costs, cable by cable.
use Rattle.std.proofs.Common.{◌≡◌, ℕ, ◌+◌, ◌*◌, ◌<◌, ◌≤◌, List, length, take, get_or, Option, Some, None, arith, refl, ap, ◌∙◌, subst}
use Rattle.std.specs.Prelude.{slice_get, sum_by}
use Rattle.std.proofs.lemmas.List.Sums.{sum_by_more}
use Rattle.cable_definitions.specs.declared.cable.Cable.{Cable}
use Rattle.cable_definitions.specs.declared.site.CableType.{CableType}
use Rattle.cable_definitions.specs.declared.site.Point.{Point}
use Rattle.cable_definitions.specs.Site.{Site, IsValid}
use Rattle.cable_definitions.specs.Arcs.{IsCandidate, capacity_of, capacity_from, cost_of, cost_from, length_between}
use Rattle.cable_definitions.specs.Plane.{length_of}
use Rattle.cable_definitions.specs.Walk.{load}
use Rattle.cable_definitions.specs.Layout.{IsCable, KeepsCandidate, KeepsCapacity}
use Rattle.plane_geometry.proofs.Lengths.{IsLength-length_of, length_small}
use Rattle.site_model.proofs.Costs.{rate_small, metres_small, charge_small, type_at}
use Rattle.std.proofs.lemmas.Option.{slice_get_within}
use Rattle.number_laws.proofs.Places.{same_item}

-- the cable at the place is a candidate arc
pub candidate_here : (s : Site) (cables : List Cable) (i : ℕ) (c : Cable) → IsCable cables i c → IsCandidate s c.from c.to → KeepsCandidate s cables i
candidate_here s cables i c h k d g = subst (λ (x : Cable). IsCandidate s x.from x.to) (same_item cables i c d h g) k

-- past the cables the rule is kept
pub candidate_past : (s : Site) (cables : List Cable) (i : ℕ) → length cables ≤ i → KeepsCandidate s cables i
candidate_past s cables i h c g = absurd (let b = slice_get_within cables i c g in omega (arith, b))

-- a capacity is at most 10,000
pub capacity_small : (s : Site) (grade : ℕ) → IsValid s → capacity_of s grade ≤ 10000
capacity_small s grade valid = by_type (slice_get s.types grade) refl
  where
    by_type : (o : Option CableType) → slice_get s.types grade ≡ o → capacity_from o ≤ 10000
    by_type None e = omega arith
    by_type (Some t) e = (type_at s grade t valid e).capacity

-- where capacities are kept, each cable carries at most 10,000
pub load_small_at : (s : Site) (cables : List Cable) (i : ℕ) (c : Cable) → IsValid s → IsCable cables i c → ((p : ℕ) → KeepsCapacity s cables p) → load s cables c.from ≤ 10000
load_small_at s cables i c valid h kept =
    let k = kept c.from i c h refl in
    let b = capacity_small s c.grade valid in
    omega (arith, k, b)

-- a length between two points is at most 2,828,428
pub length_between_small : (p q : Option Point) → length_between p q ≤ 2828428
length_between_small None q = omega arith
length_between_small (Some p) None = omega arith
length_between_small (Some p) (Some q) = length_small p.at q.at (length_of p.at q.at) (IsLength-length_of p.at q.at)

-- the cost of a cable whose load is at most 10,000
pub cost_small : (s : Site) (p q grade carried : ℕ) → IsValid s → carried ≤ 10000 → cost_of s p q grade carried ≤ 28400000000000000
cost_small s p q grade carried valid h = by_type (slice_get s.types grade) refl
  where
    by_type : (o : Option CableType) → slice_get s.types grade ≡ o → cost_from s p q o carried ≤ 28400000000000000
    by_type None e = omega arith
    by_type (Some t) e =
        let k = type_at s grade t valid e in
        let rate = rate_small t.price t.loss carried k.price k.loss h in
        let metres = metres_small (length_between (slice_get s.points p) (slice_get s.points q)) (t.price + t.loss * carried * carried) (length_between_small (slice_get s.points p) (slice_get s.points q)) rate in
        let charge = charge_small s p q valid in
        omega (arith, metres, charge)

-- the cost of one cable more
pub cost_more : (s : Site) (cables : List Cable) (i : ℕ) (d : Cable) → i < length cables
    → sum_by (λ (c : Cable). cost_of s c.from c.to c.grade (load s cables c.from)) (take (i + 1) cables)
    ≡ sum_by (λ (c : Cable). cost_of s c.from c.to c.grade (load s cables c.from)) (take i cables)
    + cost_of s (get_or cables i d).from (get_or cables i d).to (get_or cables i d).grade (load s cables (get_or cables i d).from)
cost_more s cables i d h = sum_by_more (λ (c : Cable). cost_of s c.from c.to c.grade (load s cables c.from)) cables i d h

-- a cost that was computed at a load of at most 10,000
pub cost_small_at : (s : Site) (p q grade carried total : ℕ) → IsValid s → carried ≤ 10000 → total ≡ cost_of s p q grade carried → total ≤ 28400000000000000
cost_small_at s p q grade carried total valid h e = let b = cost_small s p q grade carried valid h in omega (arith, b, e)

-- the running total of the costs, with one cable more
pub cost_step : (s : Site) (cables : List Cable) (i : ℕ) (d : Cable) (total carried here : ℕ) → i < length cables
    → total ≡ sum_by (λ (c : Cable). cost_of s c.from c.to c.grade (load s cables c.from)) (take i cables)
    → carried ≡ load s cables (get_or cables i d).from
    → here ≡ cost_of s (get_or cables i d).from (get_or cables i d).to (get_or cables i d).grade carried
    → total + here ≡ sum_by (λ (c : Cable). cost_of s c.from c.to c.grade (load s cables c.from)) (take (i + 1) cables)
cost_step s cables i d total carried here h t l e =
    let m = cost_more s cables i d h in
    let k = e ∙ ap (λ (n : ℕ). cost_of s (get_or cables i d).from (get_or cables i d).to (get_or cables i d).grade n) l in
    omega (arith, m, k, t)
