-- Each reason for which a node is dead, once.
use Rattle.std.proofs.Common.{inl, [], ◌∷◌, Bool, true, false, pos, refl, ap, sym, arith}
use Rattle.std.proofs.lemmas.Bool.{false≢true}
use Rattle.std.proofs.lemmas.Int.{ints}
use Rattle.cable_definitions.specs.declared.row.Mark.{Mark}
use Rattle.cable_definitions.specs.declared.row.Mark.TheVariants.{Free, Used, Unused}
use Rattle.cable_definitions.specs.declared.row.Why.TheVariants.{Row as RowWhy, Pair, Load, Loop, Power, Ceiling}
use Rattle.cable_definitions.specs.declared.site.Kind.TheVariants.{Substation}
use Rattle.cable_definitions.specs.Plane.{length_of, root_bits}
use Rattle.cable_definitions.specs.Walk.{most_steps}
use Rattle.cable_definitions.specs.Choice.{Choice, NoCable, Carries, IsChoice, AtLeast}
use Rattle.cable_definitions.specs.Tree.{counted, IsDead}
use Rattle.cable_definitions.proofs.Sites.{arc, type_of, two_points, only_arc, out_row, in_a_row, fork, fork_arcs, square}

-- whether an arc may be unused
abbrev pub may_leave : Mark → Bool
may_leave Used = false
may_leave mark = true

-- an arc that isn't used counts 0
nothing_counts : (other : Choice) → IsChoice two_points (arc 1 0 500) Unused other → AtLeast (pos 0) (counted out_row 0 (arc 1 0 500) other)
nothing_counts NoCable h = omega (arith, ints)
nothing_counts (Carries grade load) h = absurd (h.0 refl)

-- no arc is left for the turbine
pub dead_row : IsDead two_points only_arc (out_row ∷ []) (Unused ∷ []) 0 (RowWhy 0)
dead_row = (
  out_row,
  refl,
  inl (
    pos 0,
    record {
      extremes = pos 0 ∷ [];
      are_extremes = (record { choice = NoCable; is_choice = λ e. false≢true (sym (ap may_leave e)); reached = refl; none_beyond = nothing_counts }, tt);
      sum = refl;
    },
    omega (arith, ints),
  ),
)

-- two cables out of one turbine
pub dead_pair : IsDead fork fork_arcs [] (Used ∷ Used ∷ Free ∷ Free ∷ Free ∷ Free ∷ Free ∷ Free ∷ Free ∷ []) 0 (Pair 0 1)
dead_pair = (
  λ e. absurd (omega (arith, e)),
  record {
    first = _;
    second = _;
    first_is = refl;
    second_is = refl;
    first_used = refl;
    second_used = refl;
    incompatible = record { different = λ h. absurd (omega (arith, h.1)); apart = inl (inl refl) };
  },
)

-- two turbines behind a cable that bears one
pub dead_load : IsDead (in_a_row (type_of 100 1 0 ∷ [])) (arc 1 0 1000 ∷ arc 2 1 1000 ∷ []) [] (Used ∷ Used ∷ []) 0 (Load 1)
unfolding most_steps
dead_load = (omega arith, (λ e. false≢true e), omega arith)

-- two turbines that lead to each other
pub dead_loop : IsDead fork fork_arcs [] (Free ∷ Used ∷ Free ∷ Free ∷ Used ∷ Free ∷ Free ∷ Free ∷ Free ∷ []) 0 (Loop 1)
unfolding most_steps
dead_loop = (refl, (2, omega arith, omega arith, refl))

-- a load of 300 into a power of 250
pub dead_power : IsDead (square (Substation 4 250) (type_of 400 1 0)) (arc 1 0 1000 ∷ arc 2 0 1000 ∷ arc 3 1 1000 ∷ []) [] (Used ∷ Used ∷ Used ∷ []) 0 (Power 0)
unfolding most_steps
dead_power = (refl, omega arith)

-- a bound above what any layout can cost, and the greatest that isn't
pub dead_ceiling : IsDead fork fork_arcs [] (Free ∷ Free ∷ Free ∷ Free ∷ Free ∷ Free ∷ Free ∷ Free ∷ Free ∷ []) 3865 Ceiling
unfolding length_of root_bits
dead_ceiling = omega arith

pub ceiling_itself : ¬ (IsDead fork fork_arcs [] (Free ∷ Free ∷ Free ∷ Free ∷ Free ∷ Free ∷ Free ∷ Free ∷ Free ∷ []) 3864 Ceiling)
unfolding length_of root_bits
ceiling_itself h = absurd (omega (arith, h))
