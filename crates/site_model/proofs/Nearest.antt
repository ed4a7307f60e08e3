-- The least cost out of each turbine, end by end, and the sum of these costs.
use Rattle.std.proofs.Common.{◌≡◌, ℕ, ◌+◌, ◌<◌, ◌≤◌, List, [], ◌∷◌, length, drop, get_or, slice_get, Option, Some, None, inl, inr, ◌⊎◌, sum, below_more, refl, sym, ◌∙◌, ap, subst, arith, min, IfSome, IfNone, IsTrue}
use Rattle.std.proofs.lemmas.Bool.{cases_lt}
use Rattle.std.proofs.lemmas.List.{at_drop_more, at_drop_all}
use Rattle.std.proofs.lemmas.List.Sums.{sum_by-cons}
use Rattle.std.proofs.lemmas.Option.{slice_get_within, slice_get_cases}
use Rattle.plane_geometry.proofs.Lengths.{IsLength-length_of, length_small}
use Rattle.cable_definitions.specs.declared.site.CableType.{CableType}
use Rattle.cable_definitions.specs.declared.site.Kind.{Kind}
use Rattle.cable_definitions.specs.declared.site.Kind.TheVariants.{Turbine, Substation, Bend}
use Rattle.cable_definitions.specs.declared.site.Point.{Point}
use Rattle.cable_definitions.specs.Site.{Site, IsValid}
use Rattle.cable_definitions.specs.Arcs.{IsCandidate, Bears, IsCheapest, cost_of, kind_of, kind_from, power_of, is_turbine, length_between, capacity_of, capacity_from, charge_of}
use Rattle.cable_definitions.specs.Budget.{IsLeastOut, LeastOutAt, AreLeastOut, IsNearest}
use Rattle.site_model.specs.Best.{IsLeastOutBelow, IsLeastBelow, IsShare, least_with, most_cost}
use Rattle.site_model.proofs.Costs.{rate_small, metres_small, charge_small, type_at, cost_read, cost_from_read}

-- what a least cost says of the arc to a point
abbrev IsUnder : Site → ℕ → ℕ → ℕ → Type 0
IsUnder s p cost q = (other : ℕ) → IsCandidate s p q → Bears s other (power_of s p) → cost ≤ cost_of s p q other (power_of s p)

-- a point to which there is no candidate arc changes nothing
pub no_arc : (s : Site) (p q : ℕ) (least : Option ℕ) → ¬ (IsCandidate s p q) → IsLeastBelow s p q least → IsLeastBelow s p (q + 1) least
no_arc s p q None n h = below_more (λ (k : ℕ). ¬ (IsCandidate s p k)) q h n
no_arc s p q (Some cost) n h = record {
  to = h.to;
  grade = h.grade;
  candidate = h.candidate;
  bears = h.bears;
  reached = h.reached;
  least = λ k other l. below_more (IsUnder s p cost) q (λ k l other. h.least k other l) (λ other c b. absurd (n c)) k l other;
}

-- the cheapest type is under all types
cheapest_under : (s : Site) (p q load grade cost : ℕ) → IsCheapest s p q load grade → cost ≡ cost_of s p q grade load → (other : ℕ) → Bears s other load → cost ≤ cost_of s p q other load
cheapest_under s p q load grade cost h e other b = by (h.least other b)
  where
    by : (cost_of s p q grade load < cost_of s p q other load) ⊎ ((cost_of s p q grade load ≡ cost_of s p q other load) × (grade ≤ other)) → cost ≤ cost_of s p q other load
    by (inl k) = omega arith
    by (inr k) = omega (arith, k.0)

-- one more arc
pub one_more_arc : (s : Site) (p q grade cost : ℕ) (least : Option ℕ) → IsCandidate s p q → IsCheapest s p q (power_of s p) grade → cost ≡ cost_of s p q grade (power_of s p)
    → IsLeastBelow s p q least → IsLeastOutBelow s p (q + 1) (least_with least cost)
one_more_arc s p q grade cost None c h e none = record {
  to = q;
  grade = grade;
  candidate = c;
  bears = h.bears;
  reached = e;
  least = λ k other l. below_more (IsUnder s p cost) q (λ k l other d b. absurd (none k l d)) (λ other d b. cheapest_under s p q (power_of s p) grade cost h e other b) k l other;
}
one_more_arc s p q grade cost (Some least) c h e k = by (cases_lt cost least)
  where
    by : (cost < least) ⊎ (least ≤ cost) → IsLeastOutBelow s p (q + 1) (min least cost)
    by (inl l) = let m : min least cost ≡ cost = omega arith in record {
      to = q;
      grade = grade;
      candidate = c;
      bears = h.bears;
      reached = m ∙ e;
      least = λ r other n d b. below_more (IsUnder s p (min least cost)) q (λ r n other d b. omega (arith, m, k.least r other n d b)) (λ other d b. omega (arith, m, cheapest_under s p q (power_of s p) grade cost h e other b)) r n other d b;
    }
    by (inr l) = let m : min least cost ≡ least = omega arith in record {
      to = k.to;
      grade = k.grade;
      candidate = k.candidate;
      bears = k.bears;
      reached = m ∙ k.reached;
      least = λ r other n d b. below_more (IsUnder s p (min least cost)) q (λ r n other d b. omega (arith, m, k.least r other n d b)) (λ other d b. omega (arith, m, cheapest_under s p q (power_of s p) grade cost h e other b)) r n other d b;
    }

-- after all points there is no arc
pub all_ends_none : (s : Site) (p bound : ℕ) → length s.points ≤ bound → ((q : ℕ) → q < bound → ¬ (IsCandidate s p q)) → (q : ℕ) → ¬ (IsCandidate s p q)
all_ends_none s p bound l h q c = h q (omega (arith, slice_get_within s.points q c.to c.to_is)) c

-- after all points the least cost is that of all arcs
pub all_ends : (s : Site) (p bound cost : ℕ) → length s.points ≤ bound → IsLeastOutBelow s p bound cost → IsLeastOut s p cost
all_ends s p bound cost l h = record {
  to = h.to;
  grade = h.grade;
  candidate = h.candidate;
  bears = h.bears;
  reached = h.reached;
  least = λ q other c b. h.least q other (omega (arith, slice_get_within s.points q c.to c.to_is)) c b;
}

-- how long a cable is at most
length_between_small : (a b : Option Point) → length_between a b ≤ 2828428
length_between_small (Some a) (Some b) = length_small a.at b.at _ (IsLength-length_of a.at b.at)
length_between_small (Some a) None = omega arith
length_between_small None b = omega arith

-- no cable costs more than this at a load that is borne
pub cost_small : (s : Site) (p q grade load : ℕ) → IsValid s → Bears s grade load → cost_of s p q grade load ≤ most_cost
cost_small s p q grade load v b = by (slice_get s.types grade) refl
  where
    by : (o : Option CableType) → slice_get s.types grade ≡ o → cost_of s p q grade load ≤ most_cost
    by None e = omega (arith, cost_from_read s p q load (slice_get s.types grade), ap (λ (x : Option CableType). cost_read (slice_get s.points p) (slice_get s.points q) x load (charge_of s p q)) e)
    by (Some t) e =
        let at = type_at s grade t v e in
        let cap : capacity_of s grade ≡ t.capacity = ap capacity_from e in
        let r = rate_small t.price t.loss load at.price at.loss (omega (arith, cap, b.enough, at.capacity)) in
        let m = metres_small (length_between (slice_get s.points p) (slice_get s.points q)) _ (length_between_small (slice_get s.points p) (slice_get s.points q)) r in
        omega (
          arith,
          m,
          charge_small s p q v,
          cost_from_read s p q load (slice_get s.types grade),
          ap (λ (x : Option CableType). cost_read (slice_get s.points p) (slice_get s.points q) x load (charge_of s p q)) e,
        )

-- no least cost is more than this
pub least_small : (s : Site) (p cost : ℕ) → IsValid s → IsLeastOut s p cost → cost ≤ most_cost
least_small s p cost v h = omega (arith, h.reached, cost_small s p h.to h.grade (power_of s p) v h.bears)

-- what is known after all points
pub ends_none : (s : Site) (p bound : ℕ) (least : Option ℕ) → length s.points ≤ bound → IsLeastBelow s p bound least → IfNone least ((q : ℕ) → ¬ (IsCandidate s p q))
ends_none s p bound None l h = all_ends_none s p bound l h
ends_none s p bound (Some cost) l h = tt

pub ends_some : (s : Site) (p bound : ℕ) (least : Option ℕ) → length s.points ≤ bound → IsLeastBelow s p bound least → IfSome least (λ cost. IsLeastOut s p cost)
ends_some s p bound None l h = tt
ends_some s p bound (Some cost) l h = all_ends s p bound cost l h

pub ends_small : (s : Site) (p bound : ℕ) (least : Option ℕ) → IsValid s → length s.points ≤ bound → IsLeastBelow s p bound least → IfSome least (λ cost. cost ≤ most_cost)
ends_small s p bound None v l h = tt
ends_small s p bound (Some cost) v l h = least_small s p cost v (all_ends s p bound cost l h)

-- a point that is no turbine adds nothing
pub share_nothing : (s : Site) (p : ℕ) (kind : Kind) → ((power : ℕ) → kind ≡ Turbine power → ⊥) → IsShare s p 0 kind
share_nothing s p (Turbine power) n = absurd (n power refl)
share_nothing s p (Substation feeders power) n = refl
share_nothing s p Bend n = refl

-- a turbine adds its least cost, where it has one
pub turbine_share : (s : Site) (p power : ℕ) (least : Option ℕ) → kind_of s p ≡ Turbine power → IfSome least (λ cost. IsLeastOut s p cost) → IfSome least (λ cost. IsShare s p cost (kind_of s p))
turbine_share s p power None e h = tt
turbine_share s p power (Some cost) e h = subst (IsShare s p cost) (sym e) h

-- a turbine without a least cost has no candidate arc
pub turbine_none : (s : Site) (p power : ℕ) (least : Option ℕ) → kind_of s p ≡ Turbine power → IfNone least ((q : ℕ) → ¬ (IsCandidate s p q))
    → IfNone least (IsTrue (is_turbine (kind_of s p)) × ((q : ℕ) → ¬ (IsCandidate s p q)))
turbine_none s p power None e h = (ap is_turbine e, h)
turbine_none s p power (Some cost) e h = tt

-- the costs from a point on, where those after it are known
pub share_more : (s : Site) (p cost : ℕ) (points : List Point) (point : Point) (costs : List ℕ) → IsShare s p cost point.kind → AreLeastOut s (p + 1) points costs
    → (all : List ℕ) × AreLeastOut s p (point ∷ points) all × (sum all ≡ cost + sum costs)
share_more s p cost points point costs h k = by point.kind h
  where
    by : (kind : Kind) → IsShare s p cost kind → (all : List ℕ) × LeastOutAt s p kind all (AreLeastOut s (p + 1) points) × (sum all ≡ cost + sum costs)
    by (Turbine power) h = (cost ∷ costs, (h, k), sum_by-cons (λ x. x) cost costs)
    by (Substation feeders power) h = (costs, k, omega (arith, h))
    by Bend h = (costs, k, omega (arith, h))

-- one more point
pub share_step : (s : Site) (p cost total : ℕ) → p < length s.points → IsShare s p cost (kind_of s p)
    → ((costs : List ℕ) → AreLeastOut s p (drop p s.points) costs → (all : List ℕ) × AreLeastOut s 0 s.points all × (sum all ≡ total + sum costs))
    → (costs : List ℕ) → AreLeastOut s (p + 1) (drop (p + 1) s.points) costs → (all : List ℕ) × AreLeastOut s 0 s.points all × (sum all ≡ total + cost + sum costs)
share_step s p cost total l h rest costs k = by (slice_get_cases s.points p).1
  where
    by : ((point : Point) × (p < length s.points) × (slice_get s.points p ≡ Some point) × (get_or s.points p point ≡ point)) ⊎ ((length s.points ≤ p) × (slice_get s.points p ≡ None))
        → (all : List ℕ) × AreLeastOut s 0 s.points all × (sum all ≡ total + cost + sum costs)
    by (inr past) = absurd (omega (arith, past.0))
    by (inl (point, at, is, got)) =
        let kind : kind_of s p ≡ point.kind = ap kind_from is in
        let more = share_more s p cost (drop (p + 1) s.points) point costs (subst (IsShare s p cost) kind h) k in
        let here : drop p s.points ≡ point ∷ drop (p + 1) s.points = at_drop_more (λ (xs : List Point). xs) s.points p point at ∙ ap (λ (x : Point). x ∷ drop (p + 1) s.points) got in
        let next = subst (λ (points : List Point). AreLeastOut s p points more.0) (sym here) more.1 in
        let all = rest more.0 next in
        (all.0, all.1, omega (arith, all.2, more.2))

-- after all points the total is the sum
pub nearest_end : (s : Site) (p total : ℕ) → length s.points ≤ p
    → ((costs : List ℕ) → AreLeastOut s p (drop p s.points) costs → (all : List ℕ) × AreLeastOut s 0 s.points all × (sum all ≡ total + sum costs)) → IsNearest s total
nearest_end s p total l rest =
    let all = rest [] (subst (λ (points : List Point). AreLeastOut s p points []) (sym (at_drop_all (λ (xs : List Point). xs) s.points p l)) tt) in
    (all.0, all.1, omega (arith, all.2))
