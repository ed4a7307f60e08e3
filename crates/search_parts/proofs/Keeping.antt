-- The known layout stays in ascending order of start.
use Rattle.std.proofs.Common.{◌≡◌, ℕ, zero, suc, inl, inr, List, [], ◌∷◌, ◌++◌, Some, Option, map, sym, ◌∙◌, ap, subst}
use Rattle.cable_definitions.specs.declared.cable.Cable.{Cable}
use Rattle.cable_definitions.specs.declared.cable.Arc.{Arc}
use Rattle.cable_definitions.specs.declared.row.Mark.{Mark}
use Rattle.cable_definitions.specs.declared.row.Act.{Act}
use Rattle.cable_definitions.specs.declared.row.Act.TheVariants.{Split, Stop, Dead, Full}
use Rattle.cable_definitions.specs.Site.{Site}
use Rattle.cable_definitions.specs.Arcs.{AreArcs}
use Rattle.cable_definitions.specs.Tree.{marks_of}
use Rattle.cable_definitions.specs.Core.{Core, Event, Take, Work, Found, KnownAfter, Happens, Steps, Runs}
use Rattle.run_definitions.specs.Rounds.{round, numbers_below, LeadToEnd}
use Rattle.search_parts.specs.Start.{AreInOrder}
use Rattle.search_parts.specs.Ended.{IsKnownInOrder}
use Rattle.search_parts.proofs.InOrder.{full-in_order}

-- a layout that is found is in order
abbrev pub IsFoundInOrder : Event → Type 0
IsFoundInOrder (Take lane) = Unit {0}
IsFoundInOrder (Work lane) = Unit {0}
IsFoundInOrder (Found cables) = AreInOrder cables

-- each layout that is found is
abbrev pub AreFoundInOrder : List Event → Type 0
AreFoundInOrder [] = Unit {0}
AreFoundInOrder (event ∷ events) = IsFoundInOrder event × AreFoundInOrder events

-- the same layout
in_order-same : (old new : Option (List Cable)) → new ≡ old → IsKnownInOrder old → IsKnownInOrder new
in_order-same old new e h cables f = h cables (sym e ∙ f)

-- this layout
in_order-found : (cables : List Cable) (new : Option (List Cable)) → new ≡ Some cables → AreInOrder cables → IsKnownInOrder new
in_order-found cables new e h other f = (let g : Some cables ≡ Some other = sym e ∙ f in let same : cables ≡ other = cc in subst AreInOrder same h)

-- what a work does to the known layout
in_order-after : (s : Site) (arcs : List Arc) (marks : List Mark) (act : Act) (old new : Option (List Cable)) → AreArcs s arcs → KnownAfter s act arcs marks old new → IsKnownInOrder old → IsKnownInOrder new
in_order-after s arcs marks (Split a) old new are after h = in_order-same old new after h
in_order-after s arcs marks Stop old new are after h = in_order-same old new after h
in_order-after s arcs marks (Dead why) old new are after h = in_order-same old new after h
in_order-after s arcs marks Full old new are after h = elim after.2 [
  | inl takes ↦ in_order-found after.0 new takes.1 (full-in_order s arcs marks after.0 are after.1)
  | inr stays ↦ in_order-same old new stays.1 h
]

-- an event that happens
happen-in_order : (s : Site) (arcs : List Arc) (n : ℕ) (old : Core) (event : Event) (new : Core) → AreArcs s arcs → IsFoundInOrder event → Happens s arcs n old event new → IsKnownInOrder old.known → IsKnownInOrder new.known
happen-in_order s arcs n old (Take lane) new are up takes h = in_order-same old.known new.known (ap (λ (c : Core). c.known) takes.after) h
happen-in_order s arcs n old (Work lane) new are up works h =
    in_order-same works.known new.known (ap (λ (c : Core). c.known) works.after)
    (in_order-after s arcs (marks_of arcs works.listed.nodes works.node) works.act old.known works.known are works.known_after h)
happen-in_order s arcs n old (Found cables) new are up finds h = in_order-found cables new.known (ap (λ (c : Core). c.known) finds.after) up

-- a step
step-in_order : (s : Site) (arcs : List Arc) (n : ℕ) (old new : Core) (event : Event) → AreArcs s arcs → IsFoundInOrder event → Steps s arcs n old event new → IsKnownInOrder old.known → IsKnownInOrder new.known
step-in_order s arcs n old new event are up (inl happens) h = happen-in_order s arcs n old event new are up happens h
step-in_order s arcs n old new event are up (inr nothing) h = in_order-same old.known new.known (ap (λ (c : Core). c.known) nothing.1) h

-- a run
pub run-in_order : (s : Site) (arcs : List Arc) (n : ℕ) (old new : Core) (events : List Event) → AreArcs s arcs → AreFoundInOrder events → Runs s arcs n old events new → IsKnownInOrder old.known
    → IsKnownInOrder new.known
run-in_order s arcs n old new [] are up runs h = in_order-same old.known new.known (ap (λ (c : Core). c.known) runs) h
run-in_order s arcs n old new (event ∷ events) are up runs h =
    run-in_order s arcs n runs.0 new events are up.1 runs.2 (step-in_order s arcs n old runs.0 event are up.0 runs.1 h)

-- ---- rounds
-- no layout is found in takes and works
found-then : (xs ys : List Event) → AreFoundInOrder xs → AreFoundInOrder ys → AreFoundInOrder (xs ++ ys)
found-then [] ys p q = q
found-then (x ∷ xs) ys p q = (p.0, found-then xs ys p.1 q)

found-takes : (lanes : List ℕ) → AreFoundInOrder (map Take lanes)
found-takes [] = tt
found-takes (lane ∷ lanes) = (tt, found-takes lanes)

found-works : (lanes : List ℕ) → AreFoundInOrder (map Work lanes)
found-works [] = tt
found-works (lane ∷ lanes) = (tt, found-works lanes)

found-round : (lanes : ℕ) → AreFoundInOrder (round lanes)
found-round lanes = found-then (map Take (numbers_below lanes)) (map Work (numbers_below lanes)) (found-takes (numbers_below lanes)) (found-works (numbers_below lanes))

-- so all rounds keep the known layout in order
pub rounds-in_order : (s : Site) (arcs : List Arc) (n lanes rounds : ℕ) (old new : Core) → AreArcs s arcs → LeadToEnd s arcs n lanes rounds old new → IsKnownInOrder old.known → IsKnownInOrder new.known
rounds-in_order s arcs n lanes zero old new are lead h = in_order-same old.known new.known (ap (λ (c : Core). c.known) lead.1) h
rounds-in_order s arcs n lanes (suc rounds) old new are lead h =
    rounds-in_order s arcs n lanes rounds lead.1.0 new are lead.1.2 (run-in_order s arcs n old lead.1.0 (round lanes) are (found-round lanes) lead.1.1 h)
