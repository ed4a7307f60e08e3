-- Steps and runs.
use Rattle.std.proofs.Common.{◌≡◌, ℕ, inl, inr, List, [], ◌∷◌, Some, sym, subst}
use Rattle.cable_definitions.specs.declared.cable.Cable.{Cable}
use Rattle.cable_definitions.specs.declared.cable.Arc.{Arc}
use Rattle.cable_definitions.specs.Site.{Site, IsValid}
use Rattle.cable_definitions.specs.Arcs.{AreArcs}
use Rattle.cable_definitions.specs.Layout.{IsLegal}
use Rattle.cable_definitions.specs.Core.{Core, Event, Take, Work, Found, Finds, Happens, Steps, Runs, first_core}
use Rattle.search_laws.specs.Cores.{IsCore}
use Rattle.search_laws.proofs.Beating.{beaten-cheaper, beaten-known}
use Rattle.search_laws.proofs.Starting.{first-core}
use Rattle.search_laws.proofs.Taking.{take-core}
use Rattle.search_laws.proofs.Working.{work-core}

-- the state after a cheaper layout was found
find-core : (s : Site) (arcs : List Arc) (n : ℕ) (old : Core) (cables : List Cable) (new : Core) → IsCore s arcs n old → Finds s old cables new → IsCore s arcs n new
find-core s arcs n old cables new core finds = subst (IsCore s arcs n) (sym finds.after) (record {
  accepted = core.accepted;
  rows = core.rows;
  held_unworked = core.held_unworked;
  held_apart = core.held_apart;
  legal = λ other e. (let same : cables ≡ other = cc in subst (IsLegal s) same finds.legal);
  budget = core.budget;
  beaten = beaten-known s old.known (Some cables) old.kept.nodes (beaten-cheaper s old.known cables finds.cheaper) core.beaten;
  capped = core.capped;
  alone = core.alone;
})

-- the state after an event that happens
happen-core : (s : Site) (arcs : List Arc) (n : ℕ) (old : Core) (event : Event) (new : Core) → IsValid s → AreArcs s arcs → IsCore s arcs n old → Happens s arcs n old event new → IsCore s arcs n new
happen-core s arcs n old (Take lane) new valid are core takes = take-core s arcs n old lane new core takes
happen-core s arcs n old (Work lane) new valid are core works = work-core s arcs n old lane new valid are core works
happen-core s arcs n old (Found cables) new valid are core finds = find-core s arcs n old cables new core finds

-- the state after a step
pub step-core : (s : Site) (arcs : List Arc) (n : ℕ) (old new : Core) (event : Event) → IsValid s → AreArcs s arcs → IsCore s arcs n old → Steps s arcs n old event new → IsCore s arcs n new
step-core s arcs n old new event valid are core (inl happens) = happen-core s arcs n old event new valid are core happens
step-core s arcs n old new event valid are core (inr nothing) = subst (IsCore s arcs n) (sym nothing.1) core

-- the state after a run
pub run-core : (s : Site) (arcs : List Arc) (n : ℕ) (old new : Core) (events : List Event) → IsValid s → AreArcs s arcs → IsCore s arcs n old → Runs s arcs n old events new → IsCore s arcs n new
run-core s arcs n old new [] valid are core runs = subst (IsCore s arcs n) (sym runs) core
run-core s arcs n old new (event ∷ events) valid are core runs =
    run-core s arcs n runs.0 new events valid are (step-core s arcs n old runs.0 event valid are core runs.1) runs.2

-- the state after a run from the first one
pub reached-core : (s : Site) (arcs : List Arc) (n lanes : ℕ) (events : List Event) (core : Core) → IsValid s → AreArcs s arcs → Runs s arcs n (first_core s lanes) events core → IsCore s arcs n core
reached-core s arcs n lanes events core valid are runs = run-core s arcs n (first_core s lanes) core events valid are (first-core s arcs n lanes valid) runs
