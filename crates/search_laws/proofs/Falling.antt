-- The known layout gets no dearer.
use Rattle.std.proofs.Common.{◌≡◌, ℕ, ◌<◌, ◌≤◌, ◌⊎◌, inl, inr, List, [], ◌∷◌, Some, None, Option, refl, sym, ap, subst, arith}
use Rattle.cable_definitions.specs.declared.cable.Cable.{Cable}
use Rattle.cable_definitions.specs.declared.cable.Arc.{Arc}
use Rattle.cable_definitions.specs.Site.{Site}
use Rattle.cable_definitions.specs.Layout.{cost}
use Rattle.cable_definitions.specs.Tree.{marks_of}
use Rattle.cable_definitions.specs.Core.{Core, Event, Take, Work, Found, IsBelowKnown, Happens, Steps, Runs}
use Rattle.search_laws.proofs.Beating.{StaysBeaten, beaten-same, beaten-cheaper, known-stays}

-- ---- what isn't below the known cost stays so
-- an event that happens
happen-stays : (s : Site) (arcs : List Arc) (n : ℕ) (old : Core) (event : Event) (new : Core) → Happens s arcs n old event new → StaysBeaten s old.known new.known
happen-stays s arcs n old (Take lane) new takes = beaten-same s old.known new.known (ap (λ (c : Core). c.known) takes.after)
happen-stays s arcs n old (Work lane) new works =
    subst (λ (o : Option (List Cable)). StaysBeaten s old.known o) (sym (ap (λ (c : Core). c.known) works.after))
    (known-stays s arcs (marks_of arcs works.listed.nodes works.node) works.act old.known works.known works.known_after)
happen-stays s arcs n old (Found cables) new finds =
    subst (λ (o : Option (List Cable)). StaysBeaten s old.known o) (sym (ap (λ (c : Core). c.known) finds.after)) (beaten-cheaper s old.known cables finds.cheaper)

-- a step
step-stays : (s : Site) (arcs : List Arc) (n : ℕ) (old new : Core) (event : Event) → Steps s arcs n old event new → StaysBeaten s old.known new.known
step-stays s arcs n old new event (inl happens) = happen-stays s arcs n old event new happens
step-stays s arcs n old new event (inr nothing) = beaten-same s old.known new.known (ap (λ (c : Core). c.known) nothing.1)

-- a run
run-stays : (s : Site) (arcs : List Arc) (n : ℕ) (old new : Core) (events : List Event) → Runs s arcs n old events new → StaysBeaten s old.known new.known
run-stays s arcs n old new [] runs = beaten-same s old.known new.known (ap (λ (c : Core). c.known) runs)
run-stays s arcs n old new (event ∷ events) runs = λ b beaten. run-stays s arcs n runs.0 new events runs.2 b (step-stays s arcs n old runs.0 event runs.1 b beaten)

-- ---- so a layout that costs no more is known
-- what isn't below the known cost is the cost of a known layout, or more
pub known-reached : (s : Site) (known : Option (List Cable)) (b : ℕ) → ¬ (IsBelowKnown s known b) → (cables : List Cable) × (known ≡ Some cables) × (cost s cables ≤ b)
known-reached s None b beaten = absurd (beaten tt)
known-reached s (Some cables) b beaten = (cables, refl, at_most (cost s cables) b beaten)
  where
    at_most : (c b : ℕ) → ¬ (b < c) → c ≤ b
    at_most c b h = elim (either c b) [ inl l ↦ l | inr l ↦ absurd (h l) ]
      where
        either : (x y : ℕ) → (x ≤ y) ⊎ (y < x)
        either x y = grind arith

-- the cost of the known layout isn't below itself
not_below : (s : Site) (known : Option (List Cable)) (cables : List Cable) → known ≡ Some cables → ¬ (IsBelowKnown s known (cost s cables))
not_below s known cables e below = (let b : cost s cables < cost s cables = subst (λ (o : Option (List Cable)). IsBelowKnown s o (cost s cables)) e below in omega (arith, b))

-- after a step
pub step-falls : (s : Site) (arcs : List Arc) (n : ℕ) (old new : Core) (event : Event) (cables : List Cable) → Steps s arcs n old event new → old.known ≡ Some cables
    → (better : List Cable) × (new.known ≡ Some better) × (cost s better ≤ cost s cables)
step-falls s arcs n old new event cables step e = known-reached s new.known (cost s cables) (step-stays s arcs n old new event step (cost s cables) (not_below s old.known cables e))

-- after a run
pub run-falls : (s : Site) (arcs : List Arc) (n : ℕ) (old new : Core) (events : List Event) (cables : List Cable) → Runs s arcs n old events new → old.known ≡ Some cables
    → (better : List Cable) × (new.known ≡ Some better) × (cost s better ≤ cost s cables)
run-falls s arcs n old new events cables runs e = known-reached s new.known (cost s cables) (run-stays s arcs n old new events runs (cost s cables) (not_below s old.known cables e))
