-- Rounds in a loop.
use Rattle.std.proofs.Common.{◌≡◌, ℕ, ◌<◌, ◌≤◌, inl, inr, List, Some, None, Option, Ok, refl, sym, ◌∙◌, subst, arith}
use Rattle.std.specs.Prelude.{◌↔◌, Bool, true, false, not, is_some}
use Rattle.cable_definitions.specs.declared.cable.Arc.{Arc}
use Rattle.cable_definitions.specs.Site.{Site, IsValid}
use Rattle.cable_definitions.specs.Arcs.{AreArcs}
use Rattle.cable_definitions.specs.Tree.{Item}
use Rattle.cable_definitions.specs.Core.{Core, Runs, IsClosed, IsSpent}
use Rattle.run_definitions.specs.Rounds.{round, IsOver, LeadToEnd}
use Rattle.search_laws.proofs.Stepping.{run-core}
use Rattle.search_progress.specs.declared.progress.Ended.{Ended}
use Rattle.search_progress.specs.declared.progress.Ended.TheVariants.{Closed, Budget}
use Rattle.cable_definitions.specs.Stream.{StreamState}
use Rattle.search_parts.specs.Rounds.{IsIdle}
use Rattle.search_core.specs.Advances.{Advances}
use Rattle.search_parts.proofs.Rounding.{rounds-end, AreRounds}
use Rattle.search_parts.proofs.Emptying.{run-lanes, round-empty, round-rises}

-- a round leads from a state in which no lane holds a node to another
pub idle-round : (s : Site) (arcs : List Arc) (n lanes : ℕ) (old new : Core) → IsValid s → AreArcs s arcs → IsIdle s arcs n lanes old → Runs s arcs n old (round lanes) new → IsIdle s arcs n lanes new
idle-round s arcs n lanes old new valid are idle runs = record {
  is_core = run-core s arcs n old new (round lanes) valid are idle.is_core runs;
  count = run-lanes s arcs n old new (round lanes) runs ∙ idle.count;
  empty = round-empty s arcs n lanes old new idle.count runs;
}

-- where it began before the end, some work is done, of those that the budget has
pub record IsFurther (s : Site) (arcs : List Arc) (n lanes works : ℕ) (now : List Item → Core) : Type 0 where
  pub items : List Item
  pub idle : IsIdle s arcs n lanes (now items)
  pub rises : works < (now items).kept.works
  pub most : (now items).kept.works ≤ n

pub round-further : {A : Type 0} {u : A} {a b : StreamState} (s : Site) (arcs : List Arc) (n lanes : ℕ) (old : Core) (now : List Item → Core) → IsValid s → AreArcs s arcs → 1 ≤ lanes → IsIdle s arcs n lanes old
    → ¬ (IsOver s n old) → Advances {A = A} (Ok u) s arcs n old (Runs s arcs n old (round lanes)) now a b → IsFurther s arcs n lanes old.kept.works now
round-further s arcs n lanes old now valid are some idle on advances =
    let runs : Runs s arcs n old (round lanes) (now advances.core.items) = subst (Runs s arcs n old (round lanes)) advances.reached.1 advances.reached.0 in
    let next = idle-round s arcs n lanes old (now advances.core.items) valid are idle runs in
    record {
      items = advances.core.items;
      idle = next;
      rises = round-rises s arcs n lanes old (now advances.core.items) idle.is_core some idle.count idle.empty on runs;
      most = (let budget = next.is_core.budget in omega (arith, budget));
    }

-- ---- the end
-- a search that tells no end isn't at its end
pub not-ended : (s : Site) (n : ℕ) (core : Core) (ended : Option Ended) → ended ≡ None → (ended ≡ Some Closed) ↔ IsClosed s core → (ended ≡ Some Budget) ↔ IsSpent s n core → ¬ (IsOver s n core)
not-ended s n core ended e closed spent (inl h) = (let f = closed.1 h in cc)
not-ended s n core ended e closed spent (inr h) = (let f = spent.1 h in cc)

-- and one that tells an end is
pub has-ended : (s : Site) (n : ℕ) (core : Core) (ended : Option Ended) → ¬ (ended ≡ None) → (ended ≡ Some Closed) ↔ IsClosed s core → (ended ≡ Some Budget) ↔ IsSpent s n core → IsOver s n core
has-ended s n core None other closed spent = absurd (other refl)
has-ended s n core (Some Closed) other closed spent = inl (closed.0 refl)
has-ended s n core (Some Budget) other closed spent = inr (spent.0 refl)

-- so the rounds have led to the end
pub advances-end : {A : Type 0} (lanes : ℕ) {u : A} {s : Site} {arcs : List Arc} {n : ℕ} {old : Core} {now : List Item → Core} {a b : StreamState} → ((items : List Item) → IsOver s n (now items))
    → Advances {A = A} (Ok u) s arcs n old (λ after. (rounds : ℕ) × AreRounds s arcs n lanes rounds old after) now a b
    → Advances {A = A} (Ok u) s arcs n old (λ after. (rounds : ℕ) × LeadToEnd s arcs n lanes rounds old after) now a b
advances-end lanes {s = s} {arcs} {n} {old} {now} ends p = record {
  events = p.events;
  core = p.core;
  runs = p.runs;
  items = p.items;
  added = p.added;
  tells = p.tells;
  reached = ((p.reached.0.0, rounds-end s arcs n lanes p.reached.0.0 old p.core p.reached.0.1 (subst (IsOver s n) (sym p.reached.1) (ends p.core.items))), p.reached.1);
}

-- ---- tests
pub none_from : (ended : Option Ended) (answer : Bool) → is_some ended ≡ not answer → answer ≡ true → ended ≡ None
none_from None answer e f = refl
none_from (Some x) true e f = absurd (cc)
none_from (Some x) false e f = absurd (cc)

pub some_from : (ended : Option Ended) (answer : Bool) → is_some ended ≡ not answer → answer ≡ false → ¬ (ended ≡ None)
some_from None true e f = λ h. absurd (cc)
some_from None false e f = λ h. absurd (cc)
some_from (Some x) answer e f = λ h. cc
