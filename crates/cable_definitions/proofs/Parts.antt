-- Grown parts, a blocked turbine, a settled layout, a straight layout and the least sum of first cables on the smallest farms.
use Rattle.std.proofs.Common.{◌≡◌, ℕ, zero, suc, ◌<◌, ◌≤◌, ◌⊎◌, inr, [], ◌∷◌, refl, ap, arith}
use Rattle.std.specs.Prelude.{IsTrue, All, ◌↔◌}
use Rattle.std.proofs.lemmas.Bool.{false≢true}
use Rattle.std.proofs.lemmas.Option.{none-some}
use Rattle.cable_definitions.specs.declared.cable.Rule.TheVariants.{Range, Candidate, Start, Unjoined, Bend, Lost, Overload, Feeders, Power, Branch, Clash}
use Rattle.cable_definitions.specs.Plane.{length_of, root_bits}
use Rattle.cable_definitions.specs.Arcs.{IsCandidate, Bears, cost_of, kind_of, is_turbine}
use Rattle.cable_definitions.specs.Walk.{most_steps}
use Rattle.cable_definitions.specs.Layout.{Starts}
use Rattle.cable_definitions.specs.Part.{IsGrown, IsBlocked, IsSettled, IsStraightCable, IsStraight}
use Rattle.cable_definitions.specs.Budget.{IsNearest}
use Rattle.cable_definitions.proofs.Sites.{cable, no_substation, two_points}
use Rattle.cable_definitions.proofs.Lists.{none_listed, listed_out, is_the_one}
use Rattle.cable_definitions.proofs.Plans.{arc_is_candidate, one_cable_is_legal, no_cheaper_layout}

-- no cable is a grown part
nothing_is_grown : IsGrown no_substation []
nothing_is_grown Range i j u = record { from = λ c e. absurd (none_listed i c e); to = λ c e. absurd (none_listed i c e); grade = λ c e. absurd (none_listed i c e) }
nothing_is_grown Candidate i j u = λ c e. absurd (none_listed i c e)
nothing_is_grown Start i j u = λ k c d e. absurd (none_listed i c e)
nothing_is_grown Unjoined i j u = absurd (u refl)
nothing_is_grown Bend i j u = record { as_many = λ q e f. refl; at_most_one = λ q e f. omega arith }
nothing_is_grown Lost i j u = λ t. absurd (false≢true t)
nothing_is_grown Overload i j u = λ k c e. absurd (none_listed k c e)
nothing_is_grown Feeders i j u = λ f w e. omega arith
nothing_is_grown Power i j u = λ f w e. omega arith
nothing_is_grown Branch i j u = λ e t. omega arith
nothing_is_grown Clash i j u = λ k m c d e. absurd (none_listed k c e)

-- a farm of one point has no candidate arc
no_candidate : (q : ℕ) → ¬ (IsCandidate no_substation 0 q)
no_candidate zero c = c.different refl
no_candidate (suc q) c = none-some c.to c.to_is

-- so its turbine is blocked
pub turbine_is_blocked : IsBlocked no_substation [] 0
turbine_is_blocked = record { grown = nothing_is_grown; turbine_is = refl; not_joined = λ t. false≢true t; no_arc = λ q typed t c. absurd (no_candidate q c) }

-- the only cable is settled
pub one_cable_is_settled : IsSettled two_points (cable 1 0 0 ∷ [])
unfolding most_steps length_of root_bits
one_cable_is_settled = record { legal = one_cable_is_legal; no_cheaper = λ other l n. no_cheaper_layout other l }

-- a candidate arc out of the turbine ends in the substation
ends_before_one : (q : ℕ) → IsCandidate two_points 1 q → q ≡ 0
ends_before_one zero c = refl
ends_before_one (suc zero) c = absurd (c.different refl)
ends_before_one (suc (suc q)) c = absurd (none-some c.to c.to_is)

-- no other arc and no other type cost less
least_straight : (q grade : ℕ) → IsCandidate two_points 1 q → Bears two_points grade 100
    → (cost_of two_points 1 0 0 100 < cost_of two_points 1 q grade 100)
    ⊎ ((cost_of two_points 1 0 0 100 ≡ cost_of two_points 1 q grade 100) × ((0 < q) ⊎ ((0 ≡ q) × (0 ≤ grade))))
least_straight q zero c b = rw (ends_before_one q c) (inr (refl, inr (refl, omega arith)))
least_straight q (suc grade) c b = absurd (omega (arith, b.listed))

-- the cable is a straight one
each_is_straight : All (IsStraightCable two_points) (cable 1 0 0 ∷ [])
each_is_straight zero d l = record { candidate = arc_is_candidate; to_substation = refl; bears = record { listed = omega arith; enough = omega arith }; least = λ q grade c t b. least_straight q grade c b }
each_is_straight (suc k) d l = absurd (omega (arith, l))

-- no cable starts past the points
third_starts_none : (p : ℕ) → Starts (cable 1 0 0 ∷ []) (suc (suc p)) → ⊥
third_starts_none p t =
    let (i, c, e, f) = listed_out (cable 1 0 0 ∷ []) (suc (suc p)) t in
    absurd (omega (arith, f, ap (λ d. d.from) (is_the_one (cable 1 0 0) c i e)))

-- the turbine starts a cable, and no other point does
turbines_start : (p : ℕ) → IsTrue (is_turbine (kind_of two_points p)) ↔ Starts (cable 1 0 0 ∷ []) p
turbines_start zero = ((λ t. absurd (false≢true t)), (λ t. absurd (false≢true t)))
turbines_start (suc zero) = ((λ t. refl), (λ t. refl))
turbines_start (suc (suc p)) = ((λ t. absurd (false≢true t)), (λ t. absurd (third_starts_none p t)))

-- so it is the straight layout
pub one_cable_is_straight : IsStraight two_points (cable 1 0 0 ∷ [])
one_cable_is_straight = record { in_order = λ i j d h l. absurd (omega (arith, h, l)); turbines = turbines_start; straight = each_is_straight }

-- no other first cable costs less
no_less : (q other : ℕ) → IsCandidate two_points 1 q → Bears two_points other 100 → 50000 ≤ cost_of two_points 1 q other 100
unfolding length_of root_bits
no_less q zero c b = rw (ends_before_one q c) (omega arith)
no_less q (suc other) c b = absurd (omega (arith, b.listed))

-- its cost is the least sum of first cables
pub nearest : IsNearest two_points 50000
unfolding length_of root_bits
nearest = (50000 ∷ [], (record { to = 0; grade = 0; candidate = arc_is_candidate; bears = record { listed = omega arith; enough = omega arith }; reached = refl; least = λ q other c b. no_less q other c b }, tt), refl)
