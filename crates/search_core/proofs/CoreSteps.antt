-- Steps of a search as steps of its core.
use Rattle.std.proofs.Common.{append_assoc, ◌≡◌, ◌≢◌, ℕ, suc, ◌+◌, ◌≤◌, inl, inr, List, [], ◌∷◌, ◌++◌, Result, Ok, Err, IsErr, length, map, drop, refl, sym, ◌∙◌, ap, subst, arith}
use Rattle.std.specs.List.{concat}
use Rattle.std.proofs.lemmas.List.{append-nil, length-append}
use Rattle.cable_definitions.specs.declared.cable.Arc.{Arc}
use Rattle.cable_definitions.specs.Site.{Site}
use Rattle.cable_definitions.specs.Tree.{Item}
use Rattle.cable_definitions.specs.Core.{Core, Event, Take, Work, Works, Steps, Runs, are_row_items}
use Rattle.cable_definitions.specs.Text.{item_lines}
use Rattle.cable_text.specs.declared.stream.Failed.{Failed}
use Rattle.cable_definitions.specs.Stream.{StreamState, Writes}
use Rattle.run_definitions.specs.Rounds.{numbers_below}
use Rattle.search_progress.specs.Lists.{Lists}
use Rattle.search_core.specs.Works.{last_item}
use Rattle.search_progress.specs.Progress.{core_of}
use Rattle.search_core.specs.State.{State, KeepsParts}
use Rattle.search_core.specs.Steps.{Did, items_of}
use Rattle.search_progress.specs.declared.progress.Progress.{Progress}
use Rattle.search_core.specs.declared.machine.Step.{Step}
use Rattle.search_core.specs.declared.machine.Step.TheVariants.{Nothing, Took, Kept, Worked}
use Rattle.search_parts.proofs.Rounding.{runs-then}
use Rattle.search_parts.proofs.Emptying.{one_more, work-works}
use Rattle.search_core.specs.declared.searching.SearchFault.{SearchFault}
use Rattle.search_core.specs.Advances.{items_after, Advances}
use Rattle.search_core.proofs.Advancing.{tells-written, tells-failed, none_ok}

-- ---- parts that stay
pub keeps-none : {F G : Type 0} (state : State F G) → KeepsParts state state
keeps-none state = record { site = refl; arcs = refl; make = refl; maker_site = refl; chooser = refl; budget = refl }

pub keeps-then : {F G : Type 0} {a b c : State F G} → KeepsParts a b → KeepsParts b c → KeepsParts a c
keeps-then p q = record { site = q.site ∙ p.site; arcs = q.arcs ∙ p.arcs; make = q.make ∙ p.make; maker_site = q.maker_site ∙ p.maker_site; chooser = q.chooser ∙ p.chooser; budget = q.budget ∙ p.budget }

-- a fact of the parts of one state is one of the parts of the other
pub kept-parts : {F G : Type 0} {a b : State F G} (P : Site → List Arc → ℕ → Type 0) → KeepsParts a b → P b.site b.arcs b.progress.budget → P a.site a.arcs a.progress.budget
kept-parts {a = a} {b} P p h =
    subst (λ (n : ℕ). P a.site a.arcs n) p.budget (subst (λ (arcs : List Arc). P a.site arcs b.progress.budget) p.arcs (subst (λ (s : Site). P s b.arcs b.progress.budget) p.site h))

-- ---- steps
-- no item more
none_more : (s : Site) (arcs : List Arc) (n : ℕ) (old : Core) (event : Event) (items : List Item) (new : Progress) → Steps s arcs n old event (core_of (items ++ []) new) → Steps s arcs n old event (core_of items new)
none_more s arcs n old event items new step = subst (λ (xs : List Item). Steps s arcs n old event (core_of xs new)) (append-nil items) step

-- where nothing was done
nothing-steps : (s : Site) (arcs : List Arc) (n : ℕ) (old : Progress) (event : Event) (new : Progress) (step : Step) (items : List Item) → Did s arcs n old event new step → step ≡ Nothing
    → Steps s arcs n (core_of items old) event (core_of items new)
nothing-steps s arcs n old event new step items did e = inr (did.nothing e items, ap (core_of items) (did.same e))

-- what a step did is a step of the core
pub did-steps : (s : Site) (arcs : List Arc) (n : ℕ) (old : Progress) (event : Event) (new : Progress) (step : Step) (items : List Item) → Did s arcs n old event new step
    → Steps s arcs n (core_of items old) event (core_of (items ++ items_of old new step) new)
did-steps s arcs n old event new Nothing items did =
    subst (λ (xs : List Item). Steps s arcs n (core_of items old) event (core_of xs new)) (sym (append-nil items)) (nothing-steps s arcs n old event new Nothing items did refl)
did-steps s arcs n old event new (Took v) items did = inl (did.happens (λ e. cc) items)
did-steps s arcs n old event new Kept items did = inl (did.happens (λ e. cc) items)
did-steps s arcs n old event new (Worked from to) items did = inl (did.happens (λ e. cc) items)

-- a step on another event than a work adds no item
pub did-no_work : (s : Site) (arcs : List Arc) (n : ℕ) (old : Progress) (event : Event) (new : Progress) (step : Step) (items : List Item) → ((lane : ℕ) → event ≢ Work lane) → Did s arcs n old event new step
    → Steps s arcs n (core_of items old) event (core_of items new)
did-no_work s arcs n old event new Nothing items other did = nothing-steps s arcs n old event new Nothing items did refl
did-no_work s arcs n old event new (Took v) items other did = none_more s arcs n (core_of items old) event items new (did-steps s arcs n old event new (Took v) items did)
did-no_work s arcs n old event new Kept items other did = none_more s arcs n (core_of items old) event items new (did-steps s arcs n old event new Kept items did)
did-no_work s arcs n old event new (Worked from to) items other did = (let at = did.worked from to refl in absurd (other at.0 at.1))

-- ---- events of lanes
-- one lane more
pub lanes-more : (event : ℕ → Event) (k : ℕ) → map event (numbers_below (k + 1)) ≡ map event (numbers_below k) ++ event k ∷ []
lanes-more event k = (let e : k + 1 ≡ suc k = omega arith in ap (λ (m : ℕ). map event (numbers_below m)) e ∙ one_more event k)

pub runs-more : (s : Site) (arcs : List Arc) (n : ℕ) (old mid new : Core) (event : ℕ → Event) (k : ℕ) → Runs s arcs n old (map event (numbers_below k)) mid → Steps s arcs n mid (event k) new
    → Runs s arcs n old (map event (numbers_below (k + 1))) new
runs-more s arcs n old mid new event k runs step =
    subst (λ (xs : List Event). Runs s arcs n old xs new) (sym (lanes-more event k)) (runs-then s arcs n old mid new (map event (numbers_below k)) (event k ∷ []) runs (new, step, refl))

-- ---- works
-- what is written after a step is what it added
pub items-after : (s : Site) (arcs : List Arc) (n : ℕ) (old : Progress) (event : Event) (new : Progress) (step : Step) → Did s arcs n old event new step → items_of old new step ≡ items_after new step
items-after s arcs n old event new Nothing did = refl
items-after s arcs n old event new (Took v) did = refl
items-after s arcs n old event new Kept did = refl
items-after s arcs n old event new (Worked from to) did = (let at = did.worked from to refl in ap (λ (k : ℕ). are_row_items (drop k new.pool) ++ last_item new ∷ []) (sym at.2))

-- a work is done then, and the rows are listed behind others
pub did-worked : (s : Site) (arcs : List Arc) (n : ℕ) (old : Progress) (lane : ℕ) (new : Progress) (step : Step) → Did s arcs n old (Work lane) new step → Lists s arcs old.pool new.pool
    → (from to : ℕ) → step ≡ Worked from to → (1 ≤ new.tree.works) × (from ≤ length new.pool)
did-worked s arcs n old lane new step did lists from to e =
    let at = did.worked from to e in
    let works : Works s arcs n (core_of [] old) lane (core_of ([] ++ items_of old new step) new) = did.happens (λ f. (let g : Worked from to ≡ Nothing = sym e ∙ f in cc)) [] in
    let more = work-works s arcs n (core_of [] old) lane (core_of ([] ++ items_of old new step) new) works in
    let count = ap length lists.behind in
    let both = length-append old.pool lists.rows in
    let is = at.2 in
    (omega (arith, more), omega (arith, count, both, is))

-- a work of a lane that was written
pub advances-step : {A B : Type 0} {u : A} {v : B} {s : Site} {arcs : List Arc} {n : ℕ} {old new : Progress} {event : Event} {a b : StreamState} (step : Step) (items : List Item) → Did s arcs n old event new step
    → Writes {A = A} {E = Failed} (Ok u) a b (concat (map item_lines (items_after new step)))
    → Advances {A = B} (Ok v) s arcs n (core_of items old) (Runs s arcs n (core_of items old) (event ∷ [])) (λ more. core_of more new) a b
advances-step {A = A} {u = u} {v} {s} {arcs} {n} {old} {new} {event} {a} {b} step items did p =
    let now : Core = core_of (items ++ items_of old new step) new in
    let runs : Runs s arcs n (core_of items old) (event ∷ []) now = (now, did-steps s arcs n old event new step items did, refl) in
    record {
      events = event ∷ [];
      core = now;
      runs = runs;
      items = items_of old new step;
      added = refl;
      tells = tells-written v (subst (λ (xs : List Item). Writes {A = A} {E = Failed} (Ok u) a b (concat (map item_lines xs))) (sym (items-after s arcs n old event new step did)) p);
      reached = (runs, refl);
    }

-- one that wasn't written whole
pub advances-step-failed : {A B : Type 0} {e : Failed} {r : Result B SearchFault} {s : Site} {arcs : List Arc} {n : ℕ} {old new : Progress} {event : Event} {Reached : Core → Type 0} {state : List Item → Core} {a b : StreamState} (step : Step) (items : List Item) → Did s arcs n old event new step → IsErr r → Writes {A = A} {E = Failed} (Err e) a b (concat (map item_lines (items_after new step)))
    → Advances r s arcs n (core_of items old) Reached state a b
advances-step-failed {A = A} {e = e} {r} {s} {arcs} {n} {old} {new} {event} {a = a} {b} step items did h p =
    let now : Core = core_of (items ++ items_of old new step) new in
    record {
      events = event ∷ [];
      core = now;
      runs = (now, did-steps s arcs n old event new step items did, refl);
      items = items_of old new step;
      added = refl;
      tells = tells-failed h (subst (λ (xs : List Item). Writes {A = A} {E = Failed} (Err e) a b (concat (map item_lines xs))) (sym (items-after s arcs n old event new step did)) p);
      reached = none_ok _ r h;
    }

-- ---- rounds
-- all lanes have taken, and none has worked
pub takes-first : (s : Site) (arcs : List Arc) (n lanes : ℕ) (old new : Core) → Runs s arcs n old (map Take (numbers_below lanes)) new → Runs s arcs n old (map Take (numbers_below lanes) ++ map Work (numbers_below 0)) new
takes-first s arcs n lanes old new runs = subst (λ (events : List Event). Runs s arcs n old events new) (sym (append-nil (map Take (numbers_below lanes)))) runs

-- one more lane has worked
pub works-more : (s : Site) (arcs : List Arc) (n lanes lane : ℕ) (old mid new : Core) → Runs s arcs n old (map Take (numbers_below lanes) ++ map Work (numbers_below lane)) mid → Runs s arcs n mid (Work lane ∷ []) new
    → Runs s arcs n old (map Take (numbers_below lanes) ++ map Work (numbers_below (lane + 1))) new
works-more s arcs n lanes lane old mid new before step =
    let takes : List Event = map Take (numbers_below lanes) in
    let works : List Event = map Work (numbers_below lane) in
    subst (λ (events : List Event). Runs s arcs n old events new) (append_assoc takes works (Work lane ∷ []) ∙ ap (λ (xs : List Event). takes ++ xs) (sym (lanes-more Work lane)))
    (runs-then s arcs n old mid new (takes ++ works) (Work lane ∷ []) before step)

-- a part of the search, told by the parts of an earlier state
pub advances-moved : {F G A : Type 0} (events : List Event) {first second : State F G} {r : Result A SearchFault} {old : Core} {now : List Item → Core} {a b : StreamState} → KeepsParts first second
    → Advances r second.site second.arcs second.progress.budget old (Runs second.site second.arcs second.progress.budget old events) now a b
    → Advances r first.site first.arcs first.progress.budget old (Runs first.site first.arcs first.progress.budget old events) now a b
advances-moved events {r = r} {old} {now} {a} {b} p h =
    kept-parts (λ (s : Site) (arcs : List Arc) (n : ℕ). Advances r s arcs n old (Runs s arcs n old events) now a b) p h
