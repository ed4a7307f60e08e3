-- The least costs out of the turbines: that there are such, and that they are the only ones.
use Rattle.std.proofs.Common.{◌≡◌, ℕ, ◌+◌, ◌<◌, ◌≤◌, ◌⊎◌, inl, inr, List, [], ◌∷◌, length, sum, slice_get, IsTrue, refl, ap, sym, ◌∙◌, arith}
use Rattle.std.proofs.lemmas.Option.{slice_get_within}
use Rattle.cable_definitions.specs.declared.cable.Arc.{Arc}
use Rattle.cable_definitions.specs.declared.site.Kind.{Kind}
use Rattle.cable_definitions.specs.declared.site.Kind.TheVariants.{Turbine, Substation, Bend}
use Rattle.cable_definitions.specs.declared.site.Point.{Point}
use Rattle.cable_definitions.specs.Site.{Site}
use Rattle.cable_definitions.specs.Arcs.{IsCandidate, kind_of, is_turbine, power_of, cost_of, AreArcs}
use Rattle.cable_definitions.specs.Budget.{IsLeastOut, LeastOutAt, AreLeastOut, IsNearest}
use Rattle.layout_laws.proofs.Typing.{Beats, least_below, cheapest-le}
use Rattle.layout_laws.proofs.Nearest.{IsTail, kind_here, later_tail}
use Rattle.layout_laws.proofs.Straightest.{candidate_or_not, arc-borne, own_grade, own_cost, own_cheapest}

-- out of a point with a candidate arc there is a least cost
pub some_least_out : (s : Site) (arcs : List Arc) → 1 ≤ length s.types → AreArcs s arcs → (p q : ℕ) → IsCandidate s p q → (cost : ℕ) × IsLeastOut s p cost
some_least_out s arcs some are p q way =
    by (least_below (own_cost s p) (IsCandidate s p) (candidate_or_not s arcs are p) (length s.points))
  where
    under : (a b c r t : ℕ) → (a < b) ⊎ ((a ≡ b) × (r ≤ t)) → b ≤ c → a ≤ c
    under a b c r t (inl k) l = omega arith
    under a b c r t (inr k) l = let e : a ≡ b = k.0 in omega arith

    by : ((r : ℕ) → r < length s.points → ¬ (IsCandidate s p r))
        ⊎ ((r : ℕ) × (r < length s.points) × (IsCandidate s p r) × ((other : ℕ) → other < length s.points → IsCandidate s p other → Beats (own_cost s p) r other)) → (cost : ℕ) × IsLeastOut s p cost
    by (inl none) = absurd (none q (slice_get_within s.points q way.to way.to_is) way)
    by (inr (r, l, c, least)) = (
      own_cost s p r,
      record {
        to = r;
        grade = own_grade s p r;
        candidate = c;
        bears = let b = arc-borne s p r some c in (own_cheapest s p r b.0 b.1).bears;
        reached = refl;
        least = λ t other d b.
            under (own_cost s p r) (own_cost s p t) (cost_of s p t other (power_of s p)) r t (least t (slice_get_within s.points t d.to d.to_is) d)
            (cheapest-le s p t (power_of s p) (own_grade s p t) other (own_cheapest s p t other b) b);
      },
    )

-- there is one least cost
pub IsLeastOut-same : (s : Site) (p a b : ℕ) → IsLeastOut s p a → IsLeastOut s p b → a ≡ b
IsLeastOut-same s p a b x y =
    by (cost_of s p x.to x.grade (power_of s p)) (cost_of s p y.to y.grade (power_of s p)) x.reached y.reached
    (x.least y.to y.grade y.candidate y.bears) (y.least x.to x.grade x.candidate x.bears)
  where
    by : (c d : ℕ) → a ≡ c → b ≡ d → a ≤ d → b ≤ c → a ≡ b
    by c d e f k l = omega arith

-- such costs from point number p on
some_least_outs : (s : Site) → ((p : ℕ) → IsTrue (is_turbine (kind_of s p)) → (cost : ℕ) × IsLeastOut s p cost) → (p : ℕ) (points : List Point)
    → IsTail s p points → (costs : List ℕ) × AreLeastOut s p points costs
some_least_outs s out p [] at = ([], tt)
some_least_outs s out p (x ∷ points) at = by x.kind (kind_here s p x points at) (some_least_outs s out (p + 1) points (later_tail s p x points at))
  where
    by : (kind : Kind) → kind_of s p ≡ kind → (costs : List ℕ) × AreLeastOut s (p + 1) points costs → (costs : List ℕ) × LeastOutAt s p kind costs (AreLeastOut s (p + 1) points)
    by (Turbine power) e rest = let o = out p (ap is_turbine e) in (o.0 ∷ rest.0, (o.1, rest.1))
    by (Substation feeders power) e rest = rest
    by Bend e rest = rest

-- they are the only ones
AreLeastOut-same : (s : Site) (p : ℕ) (points : List Point) (xs ys : List ℕ) → AreLeastOut s p points xs → AreLeastOut s p points ys → xs ≡ ys
AreLeastOut-same s p [] [] [] a b = refl
AreLeastOut-same s p [] [] (y ∷ ys) a b = absurd b
AreLeastOut-same s p [] (x ∷ xs) ys a b = absurd a
AreLeastOut-same s p (point ∷ points) xs ys a b = by point.kind xs ys a b (AreLeastOut-same s (p + 1) points)
  where
    by : (kind : Kind) (xs ys : List ℕ) → LeastOutAt s p kind xs (AreLeastOut s (p + 1) points) → LeastOutAt s p kind ys (AreLeastOut s (p + 1) points)
        → ((us vs : List ℕ) → AreLeastOut s (p + 1) points us → AreLeastOut s (p + 1) points vs → us ≡ vs) → xs ≡ ys
    by (Turbine power) [] ys a b rest = absurd a
    by (Turbine power) (x ∷ xs) [] a b rest = absurd b
    by (Turbine power) (x ∷ xs) (y ∷ ys) a b rest =
        let one : x ≡ y = IsLeastOut-same s p x y a.0 b.0 in
        let others : xs ≡ ys = rest xs ys a.1 b.1 in
        λ i. one i ∷ others i
    by (Substation feeders power) xs ys a b rest = rest xs ys a b
    by Bend xs ys a b rest = rest xs ys a b

-- where each turbine has a candidate arc, there is a sum of the least costs
pub some_nearest : (s : Site) (arcs : List Arc) → 1 ≤ length s.types → AreArcs s arcs → ((p : ℕ) → IsTrue (is_turbine (kind_of s p)) → (q : ℕ) × IsCandidate s p q)
    → (total : ℕ) × IsNearest s total
some_nearest s arcs some are ways =
    let r = some_least_outs s (λ p h. let w = ways p h in some_least_out s arcs some are p w.0 w.1) 0 s.points
    (λ i x e. ap (slice_get s.points) (let z : 0 + i ≡ i = omega arith in z) ∙ e) in
    (sum r.0, (r.0, r.1, refl))

-- it is the only one
pub IsNearest-same : (s : Site) (a b : ℕ) → IsNearest s a → IsNearest s b → a ≡ b
IsNearest-same s a b x y = x.2 ∙ ap sum (AreLeastOut-same s 0 s.points x.0 y.0 x.1 y.1) ∙ sym y.2
