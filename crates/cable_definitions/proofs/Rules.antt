-- Rules of a legal layout that are broken, the first broken rule, and rules of rings and of tighter sites.
use Rattle.std.proofs.Common.{ℕ, zero, suc, ◌<◌, inl, inr, [], ◌∷◌, refl, arith}
use Rattle.std.proofs.lemmas.Bool.{false≢true}
use Rattle.cable_definitions.specs.declared.cable.Rule.{Rule}
use Rattle.cable_definitions.specs.declared.cable.Rule.TheVariants.{Range, Candidate, Start, Unjoined, Bend, Lost, Overload, Feeders, Power, Branch, Clash as ClashRule}
use Rattle.cable_definitions.specs.declared.site.Kind.TheVariants.{Substation}
use Rattle.cable_definitions.specs.declared.tight.TightRule.TheVariants.{Capacity}
use Rattle.cable_definitions.specs.Walk.{most_steps}
use Rattle.cable_definitions.specs.Layout.{KeepsRange, KeepsStart, KeepsEnd, KeepsBend, KeepsCapacity, KeepsFeeders, KeepsPower, KeepsString, KeepsClear, KeepsJoined, IsBefore, Keeps, rule_number, IsFirstBroken}
use Rattle.cable_definitions.specs.Rings.{KeepsOther, KeepsRingFeeders}
use Rattle.cable_definitions.specs.Tighter.{KeepsTight}
use Rattle.cable_definitions.proofs.Sites.{cable, type_of, two_points, in_a_row, crossing, around, fork, fork_of_strings, branched, stringed, square}
use Rattle.cable_definitions.proofs.Lists.{none_listed}
use Rattle.cable_definitions.proofs.Touching.{cables_clash}

-- a cable to a point that isn't there
pub range_broken : ¬ (KeepsRange two_points (cable 1 2 0 ∷ []) 0)
range_broken k = absurd (omega (arith, k.to (cable 1 2 0) refl))

-- two cables out of one turbine
pub start_broken : ¬ (KeepsStart (cable 1 0 0 ∷ cable 1 2 0 ∷ []) 1)
start_broken k = k 0 (cable 1 2 0) (cable 1 0 0) refl refl (omega arith) refl

-- a cable into a bend that none leaves
pub bend_broken : ¬ (KeepsBend around (cable 1 2 0 ∷ []) 2)
bend_broken k = absurd (omega (arith, k.as_many _ refl refl))

-- a cycle ends in no substation
pub cycle_is_lost : ¬ (KeepsEnd fork (cable 1 2 0 ∷ cable 2 1 0 ∷ []) 1)
unfolding most_steps
cycle_is_lost k = false≢true (k refl)

-- a cable that bears one turbine, and not two
pub thin_is_overloaded : ¬ (KeepsCapacity (in_a_row (type_of 100 1 0 ∷ [])) (cable 1 0 0 ∷ cable 2 1 0 ∷ []) 1)
unfolding most_steps
thin_is_overloaded k = absurd (omega (arith, k 0 (cable 1 0 0) refl refl))

-- two cables into one feeder
pub feeders_broken : ¬ (KeepsFeeders (square (Substation 1 10000) (type_of 200 1 0)) (cable 1 0 0 ∷ cable 2 0 0 ∷ cable 3 1 0 ∷ []) 0)
feeders_broken k = absurd (omega (arith, k 1 10000 refl))

-- a load of 300 into a power of 250
pub power_broken : ¬ (KeepsPower (square (Substation 4 250) (type_of 400 1 0)) (cable 1 0 0 ∷ cable 2 0 0 ∷ cable 3 1 0 ∷ []) 0)
unfolding most_steps
power_broken k = absurd (omega (arith, k 4 250 refl))

-- two cables into a turbine of a string
pub branch_broken : ¬ (KeepsString fork_of_strings branched 1)
branch_broken k = absurd (omega (arith, k refl refl))

-- two cables across
pub clash_broken : ¬ (KeepsClear crossing (cable 2 1 0 ∷ cable 3 0 0 ∷ []) 2 3)
clash_broken k = k 0 1 (cable 2 1 0) (cable 3 0 0) refl refl refl refl (omega arith) cables_clash

-- ---- with no cable the first broken rule is that the first turbine starts none
earlier_rules_kept : (r : Rule) (i j : ℕ) → rule_number r < 4 → Keeps crossing [] r i j
earlier_rules_kept Range i j h = record { from = λ c e. absurd (none_listed i c e); to = λ c e. absurd (none_listed i c e); grade = λ c e. absurd (none_listed i c e) }
earlier_rules_kept Candidate i j h = λ c e. absurd (none_listed i c e)
earlier_rules_kept Start i j h = λ k c d e. absurd (none_listed i c e)
earlier_rules_kept Unjoined i j h = absurd (omega (arith, h))
earlier_rules_kept Bend i j h = absurd (omega (arith, h))
earlier_rules_kept Lost i j h = absurd (omega (arith, h))
earlier_rules_kept Overload i j h = absurd (omega (arith, h))
earlier_rules_kept Feeders i j h = absurd (omega (arith, h))
earlier_rules_kept Power i j h = absurd (omega (arith, h))
earlier_rules_kept Branch i j h = absurd (omega (arith, h))
earlier_rules_kept ClashRule i j h = absurd (omega (arith, h))

-- the two substations before it need no cable
earlier_points_kept : (i j : ℕ) → IsBefore i j 2 0 → KeepsJoined crossing [] i
earlier_points_kept zero j h t = absurd (false≢true t)
earlier_points_kept (suc zero) j h t = absurd (false≢true t)
earlier_points_kept (suc (suc i)) j (inl h) t = absurd (omega (arith, h))
earlier_points_kept (suc (suc i)) j (inr h) t = absurd (omega (arith, h.1))

pub first_unjoined : IsFirstBroken crossing [] Unjoined 2 2
first_unjoined = record { place = 2; second_place = 0; broken = λ k. false≢true (k refl); named = (refl, refl); earlier_rules = earlier_rules_kept; earlier_places = earlier_points_kept }

-- ---- rings
-- a string of one turbine has no second way to its substation
pub ring_of_one : ¬ (KeepsOther (cable 1 0 0 ∷ []) (cable 1 0 0 ∷ []) 1)
ring_of_one k = k 0 0 (cable 1 0 0) (cable 1 0 0) refl refl refl (inl (refl, refl))

-- a ring takes two feeders
pub ring_takes_two : ¬ (KeepsRingFeeders (square (Substation 1 10000) (type_of 400 1 0)) stringed (cable 3 0 0 ∷ []) 0)
ring_takes_two k = absurd (omega (arith, k 1 10000 refl))

-- ---- a higher capacity tightens nothing
pub capacity_broken : ¬ (KeepsTight (in_a_row (type_of 400 1 0 ∷ [])) (in_a_row (type_of 500 1 0 ∷ [])) Capacity 0 0)
capacity_broken k = absurd (omega (arith, k (type_of 400 1 0) (type_of 500 1 0) (refl, refl)))
