-- How a search begins, and what is concluded from its end.
use Rattle.std.proofs.Common.{◌≡◌, ℕ, ◌<◌, ℤ, pos, negsuc, List, Some, None, Option, refl, sym, ◌∙◌, ap, subst, arith}
use Rattle.std.specs.Prelude.{◌^◌, ◌≤ℤ◌, ◌<ℤ◌, nat_abs}
use Rattle.std.specs.Int.{w128}
use Rattle.std.proofs.lemmas.Int.{ints, to_z-of_z}
use mir.Val.{to_z, of_z}
use Rattle.cable_definitions.specs.declared.cable.Cable.{Cable}
use Rattle.cable_definitions.specs.declared.cable.Arc.{Arc}
use Rattle.cable_definitions.specs.declared.claim.Claim.{Claim}
use Rattle.cable_definitions.specs.declared.claim.Claim.TheVariants.{Partial}
use Rattle.cable_definitions.specs.Site.{Site}
use Rattle.cable_definitions.specs.Layout.{IsLegal}
use Rattle.cable_definitions.specs.Tree.{IsLeastBound}
use Rattle.cable_definitions.specs.Core.{Core, Event, Found, Steps, Runs}
use Rattle.run_definitions.specs.Rounds.{found}
use Rattle.search_parts.specs.declared.start.Settled.{Settled}
use Rattle.search_parts.specs.declared.start.Incumbent.{Incumbent}
use Rattle.search_parts.specs.declared.start.Incumbent.TheVariants.{Known, Part}
use Rattle.search_parts.specs.Start.{IsStuckPart, CanBegin, IsPart, IsPartPlan, IsSettledBest, IsClaimedOf, layout_of}
use Rattle.search_parts.specs.Ended.{IsNoDearer, HasEnded, IsConcluded}
use Rattle.search_parts.proofs.Outcomes.{part-small, concluded-part, concluded-settled}

-- ---- the beginning
-- the layout to begin with is found
pub begin-runs : (s : Site) (arcs : List Arc) (n : ℕ) (old new : Core) (start : Incumbent) (settled : Settled) → start ≡ Known settled → Steps s arcs n old (Found settled.layout) new
    → Runs s arcs n old (found (layout_of start)) new
begin-runs s arcs n old new start settled e step = subst (λ (x : Incumbent). Runs s arcs n old (found (layout_of x)) new) (sym e) (new, step, refl)

-- it is legal
pub begin-legal : (s : Site) (start : Incumbent) (settled : Settled) → start ≡ Known settled → CanBegin s start → IsLegal s settled.layout
begin-legal s start settled e is = (let known : CanBegin s (Known settled) = subst (CanBegin s) e is in known.1.legal)

-- there is none
pub begin-none : (s : Site) (arcs : List Arc) (n : ℕ) (old : Core) (start : Incumbent) (part : List Cable) (turbine : ℕ) → start ≡ Part part turbine → Runs s arcs n old (found (layout_of start)) old
begin-none s arcs n old start part turbine e = subst (λ (x : Incumbent). Runs s arcs n old (found (layout_of x)) old) (sym e) refl

-- ---- numbers
-- a small number that isn't negative is passed on as it is
pub passed : (z : ℤ) → pos 0 ≤ℤ z → nat_abs z < 2 ^ 63 → to_z w128 (of_z w128 z) ≡ z
passed (pos m) l h = to_z-of_z w128 (pos m) (omega (arith, ints, h))
passed (negsuc m) l h = absurd (omega (arith, ints, l))

small : (z : ℤ) → pos 0 ≤ℤ z → nat_abs z < 2 ^ 63 → z <ℤ pos (2 ^ 64)
small (pos m) l h = omega (arith, ints, h)
small (negsuc m) l h = absurd (omega (arith, ints, l))

-- the bound of a part fits
pub part-fits : (s : Site) (arcs : List Arc) (n : ℕ) (start : Incumbent) (core : Core) (z : ℤ) → HasEnded s arcs n start core → pos 0 ≤ℤ z → IsLeastBound core.kept (nat_abs z) → to_z w128 (of_z w128 z) <ℤ pos (2 ^ 64)
part-fits s arcs n start core z h l least =
    let low = part-small s arcs n start core (nat_abs z) h least in
    subst (λ (y : ℤ). y <ℤ pos (2 ^ 64)) (sym (passed z l low)) (small z l low)

-- ---- the end
-- where no layout is known at the end, none was at the beginning
pub start-part : (s : Site) (start : Incumbent) (known : Option (List Cable)) → IsNoDearer s start known → known ≡ None → IsPart start
start-part s (Known settled) known falls e = absurd (let f : None ≡ Some falls.0 = sym e ∙ falls.1 in cc)
start-part s (Part part turbine) known falls e = tt

-- a part, as it is handed out
pub concluded-open : (s : Site) (arcs : List Arc) (n : ℕ) (start : Incumbent) (core : Core) (cables : List Cable) (z : ℤ) (claim : Claim) → HasEnded s arcs n start core → pos 0 ≤ℤ z → IsLeastBound core.kept (nat_abs z)
    → core.known ≡ None → CanBegin s start → IsPartPlan start (nat_abs (to_z w128 (of_z w128 z))) cables claim → IsConcluded s arcs n core core cables claim
concluded-open s arcs n (Known settled) core cables z claim h l least unknown is plan = absurd plan
concluded-open s arcs n (Part part turbine) core cables z claim h l least unknown is plan =
    concluded-part s arcs n (Part part turbine) core cables (nat_abs z) turbine claim h least unknown (subst (λ (xs : List Cable). IsStuckPart s xs turbine) (sym plan.0) is)
    (plan.1 ∙ ap (λ (y : ℤ). Partial (nat_abs y) turbine) (passed z l (part-small s arcs n (Part part turbine) core (nat_abs z) h least)))

-- a layout, as it is handed out
pub concluded-best : (s : Site) (arcs : List Arc) (n : ℕ) (start : Incumbent) (ended core : Core) (known cables : List Cable) (total : ℕ) (z : ℤ) (claim : Claim) → HasEnded s arcs n start ended → pos 0 ≤ℤ z
    → IsLeastBound ended.kept (nat_abs z) → ended.known ≡ Some known → IsSettledBest s known cables total → IsClaimedOf total (nat_abs (to_z w128 (of_z w128 z))) claim → Steps s arcs n ended (Found cables) core
    → IsConcluded s arcs n ended core cables claim
concluded-best s arcs n start ended core known cables total z claim h l least is_known best claimed step =
    concluded-settled s arcs n start ended core known cables total (nat_abs z) claim h least is_known best
    (subst (λ (y : ℤ). IsClaimedOf total (nat_abs y) claim) (passed z l (part-small s arcs n start ended (nat_abs z) h least)) claimed) step

-- the part with its claim
pub part-plan : (start : Incumbent) (z : ℤ) (part : List Cable) (turbine : ℕ) (claim : Claim) → start ≡ Part part turbine → pos 0 ≤ℤ z → z <ℤ pos (2 ^ 64) → claim ≡ Partial (nat_abs (to_z w128 (of_z w128 z))) turbine
    → IsPartPlan start (nat_abs z) part claim
part-plan start z part turbine claim e l h is =
    subst (λ (x : Incumbent). IsPartPlan x (nat_abs z) part claim) (sym e) (refl, is ∙ ap (λ (y : ℤ). Partial (nat_abs y) turbine) (kept z l h))
  where
    kept : (y : ℤ) → pos 0 ≤ℤ y → y <ℤ pos (2 ^ 64) → to_z w128 (of_z w128 y) ≡ y
    kept (pos m) low high = to_z-of_z w128 (pos m) (omega (arith, ints, high))
    kept (negsuc m) low high = absurd (omega (arith, ints, low))

-- no part where a layout is known
pub not-part : (start : Incumbent) (settled : Settled) → start ≡ Known settled → IsPart start → ⊥
not-part start settled e is = subst IsPart e is

-- ---- the same site
-- a step, told of an equal site and equal arcs
pub steps-at : {s t : Site} {arcs brcs : List Arc} (n : ℕ) (old : Core) (event : Event) (new : Core) → s ≡ t → arcs ≡ brcs → Steps s arcs n old event new → Steps t brcs n old event new
steps-at {t = t} {arcs} n old event new e f step =
    subst (λ (xs : List Arc). Steps t xs n old event new) f (subst (λ (x : Site). Steps x arcs n old event new) e step)
