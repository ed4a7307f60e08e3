-- What is legal and what it costs: a farm without turbines, a turbine without a substation, and one cable.
use Rattle.std.proofs.Common.{◌≡◌, ◌≢◌, ℕ, zero, suc, ◌<◌, ◌≤◌, [], ◌∷◌, refl, ap, sym, arith, subst, ◌∙◌}
use Rattle.std.specs.Prelude.{unwrap_or}
use Rattle.std.proofs.lemmas.Bool.{false≢true}
use Rattle.std.proofs.lemmas.Option.{none-some}
use Rattle.cable_definitions.specs.declared.cable.Cable.{Cable}
use Rattle.cable_definitions.specs.declared.site.Kind.{Kind}
use Rattle.cable_definitions.specs.declared.site.Kind.TheVariants.{Turbine, Substation, Bend}
use Rattle.cable_definitions.specs.declared.site.Mode.{Mode}
use Rattle.cable_definitions.specs.declared.site.Mode.TheVariants.{Tree, Strings}
use Rattle.cable_definitions.specs.declared.site.Point.{Point}
use Rattle.cable_definitions.specs.Plane.{length_of, root_bits}
use Rattle.cable_definitions.specs.Arcs.{IsPoint, IsCandidate, is_substation, is_bend, capacity_of, cost_of}
use Rattle.cable_definitions.specs.Walk.{load, most_steps}
use Rattle.cable_definitions.specs.Layout.{IsCable, KeepsJoined, KeepsEnd, KeepsCapacity, KeepsFeeders, KeepsPower, IsLegal, Least, HasNone}
use Rattle.cable_definitions.proofs.Sites.{cable, no_turbine, no_substation, two_points}
use Rattle.cable_definitions.proofs.Lists.{none_listed, is_the_one, listed_out, one_of_sum}

-- the feeders of a substation
feeders_of : Kind → ℕ
feeders_of (Turbine power) = 0
feeders_of (Substation feeders power) = feeders
feeders_of Bend = 0

-- what a substation takes
limit_of : Kind → ℕ
limit_of (Turbine power) = 0
limit_of (Substation feeders power) = power
limit_of Bend = 0

-- whether strings are asked for
is_strings : Mode → ℕ
is_strings Tree = 0
is_strings Strings = 1

-- ---- no turbine: no cable is legal, and costs nothing
nothing_joins : (p : ℕ) → KeepsJoined no_turbine [] p
nothing_joins zero t = absurd (false≢true t)
nothing_joins (suc p) t = absurd (false≢true t)

pub nothing_is_legal : IsLegal no_turbine []
unfolding is_strings
nothing_is_legal = record {
  range = λ i. record { from = λ c e. absurd (none_listed i c e); to = λ c e. absurd (none_listed i c e); grade = λ c e. absurd (none_listed i c e) };
  candidate = λ i c e. absurd (none_listed i c e);
  start = λ i j c d e. absurd (none_listed i c e);
  joined = nothing_joins;
  bend = λ p. record { as_many = λ q e f. refl; at_most_one = λ q e f. omega arith };
  ends = λ p t. absurd (false≢true t);
  capacity = λ p i c e. absurd (none_listed i c e);
  feeders = λ p f w e. omega arith;
  power = λ p f w e. omega arith;
  string = λ p e. absurd (omega (arith, ap is_strings e));
  clear = λ a b i j c d e. absurd (none_listed i c e);
}

-- ---- a turbine without a substation: no cable can start there
pub no_legal_layout : HasNone no_substation
no_legal_layout cables l =
    let (i, c, e, f) = listed_out cables 0 (l.joined 0 refl) in
    (l.candidate i c e).different (omega (arith, f, (l.range i).to c e))

-- ---- one cable: where it starts
starts_at_one : (i p : ℕ) (c : Cable) → IsCable (cable 1 0 0 ∷ []) i c → c.from ≡ p → p ≡ 1
starts_at_one i p c e f = omega (arith, f, ap (λ d. d.from) (is_the_one (cable 1 0 0) c i e))

-- no third point
no_third : (r : ℕ) (other : Point) → IsPoint two_points r other → r ≢ 1 → r ≢ 0 → ⊥
no_third zero other e f g = g refl
no_third (suc zero) other e f g = f refl
no_third (suc (suc r)) other e f g = none-some other e

-- no cable before it
one_place : (i j : ℕ) (c d : Cable) → IsCable (cable 1 0 0 ∷ []) i c → IsCable (cable 1 0 0 ∷ []) j d → j < i → d.from ≢ c.from
one_place zero j c d e f h = absurd (omega (arith, h))
one_place (suc i) j c d e f h = absurd (none_listed i c e)

pub arc_is_candidate : IsCandidate two_points 1 0
arc_is_candidate = record {
  from = _;
  to = _;
  from_is = refl;
  to_is = refl;
  no_substation = λ e. false≢true e;
  different = λ e. absurd (omega (arith, e));
  not_closed = λ e. none-some _ e;
  passes_none = λ r other e f g h k. no_third r other e f g;
  clear = λ i d h. absurd (omega (arith, h));
  bearable = omega arith;
}

one_joins : (p : ℕ) → KeepsJoined two_points (cable 1 0 0 ∷ []) p
one_joins zero t = absurd (false≢true t)
one_joins (suc zero) t = refl
one_joins (suc (suc p)) t = absurd (false≢true t)

-- neither point is a bend
no_bend : (p : ℕ) (point : Point) → IsPoint two_points p point → point.kind ≢ Bend
no_bend zero point e f = false≢true (ap (λ o. is_bend (unwrap_or o point).kind) e ∙ ap is_bend f)
no_bend (suc zero) point e f = false≢true (ap (λ o. is_bend (unwrap_or o point).kind) e ∙ ap is_bend f)
no_bend (suc (suc p)) point e f = none-some point e

one_ends : (p : ℕ) → KeepsEnd two_points (cable 1 0 0 ∷ []) p
unfolding most_steps
one_ends zero t = absurd (false≢true t)
one_ends (suc zero) t = refl
one_ends (suc (suc p)) t =
    let (i, c, e, f) = listed_out (cable 1 0 0 ∷ []) (suc (suc p)) t in
    absurd (omega (arith, starts_at_one i (suc (suc p)) c e f))

one_is_borne : (p : ℕ) → KeepsCapacity two_points (cable 1 0 0 ∷ []) p
unfolding most_steps
one_is_borne zero i c e f = absurd (omega (arith, starts_at_one i 0 c e f))
one_is_borne (suc zero) i c e f = subst (λ (g : ℕ). load two_points (cable 1 0 0 ∷ []) 1 ≤ capacity_of two_points g) (sym (ap (λ d. d.grade) (is_the_one (cable 1 0 0) c i e))) (omega arith)
one_is_borne (suc (suc p)) i c e f = absurd (omega (arith, starts_at_one i (suc (suc p)) c e f))

one_feeder : (p : ℕ) → KeepsFeeders two_points (cable 1 0 0 ∷ []) p
unfolding feeders_of
one_feeder zero f w e = omega (arith, ap feeders_of e)
one_feeder (suc zero) f w e = absurd (false≢true (ap is_substation e))
one_feeder (suc (suc p)) f w e = absurd (false≢true (ap is_substation e))

one_power : (p : ℕ) → KeepsPower two_points (cable 1 0 0 ∷ []) p
unfolding limit_of most_steps
one_power zero f w e = omega (arith, ap limit_of e)
one_power (suc zero) f w e = absurd (false≢true (ap is_substation e))
one_power (suc (suc p)) f w e = absurd (false≢true (ap is_substation e))

pub one_cable_is_legal : IsLegal two_points (cable 1 0 0 ∷ [])
unfolding is_strings
one_cable_is_legal = record {
  range = λ i. record {
    from = λ c e. omega (arith, ap (λ d. d.from) (is_the_one (cable 1 0 0) c i e));
    to = λ c e. omega (arith, ap (λ d. d.to) (is_the_one (cable 1 0 0) c i e));
    grade = λ c e. omega (arith, ap (λ d. d.grade) (is_the_one (cable 1 0 0) c i e));
  };
  candidate = λ i c e. subst (λ (d : Cable). IsCandidate two_points d.from d.to) (sym (is_the_one (cable 1 0 0) c i e)) arc_is_candidate;
  start = λ i j c d e f h. one_place i j c d e f h;
  joined = one_joins;
  bend = λ p. record { as_many = λ q e f. absurd (no_bend p q e f); at_most_one = λ q e f. absurd (no_bend p q e f) };
  ends = one_ends;
  capacity = one_is_borne;
  feeders = one_feeder;
  power = one_power;
  string = λ p e. absurd (omega (arith, ap is_strings e));
  clear = λ a b i j c d e f g h k. absurd (omega (arith, starts_at_one i a c e g, starts_at_one j b d f h, k));
}

-- the load plays no part in what that cable costs
fixed_cost : (from to grade load : ℕ) → from ≡ 1 → to ≡ 0 → grade ≡ 0 → 50000 ≤ cost_of two_points from to grade load
unfolding length_of root_bits
fixed_cost from to grade load e f g = rw (e, f, g) (omega arith)

-- each legal layout has a cable from the turbine to the substation, which costs no less
pub no_cheaper_layout : Least two_points 50000
no_cheaper_layout cables l =
    let (i, c, e, f) = listed_out cables 1 (l.joined 1 refl) in
    let to : c.to ≡ 0 = omega (arith, f, (l.range i).to c e, (l.candidate i c e).different) in
    let grade : c.grade ≡ 0 = omega (arith, (l.range i).grade c e) in
    omega (arith, one_of_sum (λ d. cost_of two_points d.from d.to d.grade (load two_points cables d.from)) cables i c e, fixed_cost c.from c.to c.grade (load two_points cables c.from) f to grade)
