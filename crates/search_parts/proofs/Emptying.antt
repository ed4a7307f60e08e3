-- Lanes during a round: some node is taken, each lane is empty afterwards, and works rise.
use Rattle.std.proofs.Common.{◌≡◌, ◌≢◌, ℕ, zero, suc, ◌+◌, ◌<◌, ◌≤◌, ◌⊎◌, inl, inr, List, [], ◌∷◌, ◌++◌, length, map, slice_get, Some, None, Option, refl, sym, ◌∙◌, ap, subst, arith}
use Rattle.std.specs.Prelude.{slice_set, count_by}
use Rattle.std.proofs.Math.ListN.{length-set}
use Rattle.std.proofs.lemmas.List.{map-append}
use Rattle.std.proofs.lemmas.Option.{slice_get_within}
use Rattle.cable_definitions.specs.declared.cable.Arc.{Arc}
use Rattle.cable_definitions.specs.Site.{Site}
use Rattle.cable_definitions.specs.Core.{Core, Event, Take, Work, Found, Takes, Works, Happens, Steps, Runs, IsPossible, held_count, is_holding}
use Rattle.proof_laws.proofs.Boxes.{set_either}
use Rattle.proof_laws.proofs.Lists.{some_at}
use Rattle.run_definitions.specs.Rounds.{round, numbers_below, IsOver}
use Rattle.search_laws.specs.Cores.{IsCore}
use Rattle.search_laws.proofs.Leading.{rows-listed}
use Rattle.search_laws.proofs.Lanes.{holding-set, none_held, none_holding}
use Rattle.search_laws.proofs.Wanting.{goes_on}

-- ---- runs
-- a run over two lists of events
pub runs-split : (s : Site) (arcs : List Arc) (n : ℕ) (old new : Core) (xs ys : List Event) → Runs s arcs n old (xs ++ ys) new → (mid : Core) × Runs s arcs n old xs mid × Runs s arcs n mid ys new
runs-split s arcs n old new [] ys runs = (old, refl, runs)
runs-split s arcs n old new (x ∷ xs) ys runs = (let rest = runs-split s arcs n runs.0 new xs ys runs.2 in (rest.0, (runs.0, runs.1, rest.1), rest.2))

-- the events of lanes and of one more
pub one_more : (event : ℕ → Event) (k : ℕ) → map event (numbers_below (suc k)) ≡ map event (numbers_below k) ++ event k ∷ []
one_more event k = map-append event (numbers_below k) (k ∷ [])

runs-one_more : (s : Site) (arcs : List Arc) (n : ℕ) (old new : Core) (event : ℕ → Event) (k : ℕ) → Runs s arcs n old (map event (numbers_below (suc k))) new
    → (mid : Core) × Runs s arcs n old (map event (numbers_below k)) mid × Steps s arcs n mid (event k) new
runs-one_more s arcs n old new event k runs =
    let parts = runs-split s arcs n old new (map event (numbers_below k)) (event k ∷ []) (subst (λ (xs : List Event). Runs s arcs n old xs new) (one_more event k) runs) in
    (parts.0, parts.1, subst (λ (c : Core). Steps s arcs n parts.0 (event k) c) (sym parts.2.2) parts.2.1)

-- ---- works done and nodes held
-- how many works are done or under way
abbrev pub begun : Core → ℕ
begun core = core.kept.works + held_count core

-- the works of a work
pub work-works : (s : Site) (arcs : List Arc) (n : ℕ) (old : Core) (lane : ℕ) (new : Core) → Works s arcs n old lane new → new.kept.works ≡ old.kept.works + 1
work-works s arcs n old lane new works =
    let kept = ap (λ (c : Core). c.kept.works) works.after in
    let more = works.work_accepted.works in
    let same = (rows-listed s arcs n works.rows old.kept works.listed works.rows_accepted).works in
    omega (arith, kept, more, same)

-- a take begins one
take-begun : (s : Site) (n : ℕ) (old : Core) (lane : ℕ) (new : Core) → Takes s n old lane new → begun new ≡ begun old + 1
take-begun s n old lane new takes =
    let works = ap (λ (c : Core). c.kept.works) takes.after in
    let held = ap (λ (c : Core). held_count c) takes.after in
    let count = holding-set old.lanes lane None (Some takes.node) takes.empty in
    omega (arith, works, held, count)

-- a work does one that was under way
work-begun : (s : Site) (arcs : List Arc) (n : ℕ) (old : Core) (lane : ℕ) (new : Core) → Works s arcs n old lane new → begun new ≡ begun old
work-begun s arcs n old lane new works =
    let more = work-works s arcs n old lane new works in
    let held = ap (λ (c : Core). held_count c) works.after in
    let count = holding-set old.lanes lane (Some works.node) None works.held in
    omega (arith, more, held, count)

-- none is lost
happen-begun : (s : Site) (arcs : List Arc) (n : ℕ) (old : Core) (event : Event) (new : Core) → Happens s arcs n old event new → begun old ≤ begun new
happen-begun s arcs n old (Take lane) new takes = (let e = take-begun s n old lane new takes in omega (arith, e))
happen-begun s arcs n old (Work lane) new works = (let e = work-begun s arcs n old lane new works in omega (arith, e))
happen-begun s arcs n old (Found cables) new finds = (let e = ap begun finds.after in omega (arith, e))

step-begun : (s : Site) (arcs : List Arc) (n : ℕ) (old new : Core) (event : Event) → Steps s arcs n old event new → begun old ≤ begun new
step-begun s arcs n old new event (inl happens) = happen-begun s arcs n old event new happens
step-begun s arcs n old new event (inr nothing) = (let e = ap begun nothing.1 in omega (arith, e))

run-begun : (s : Site) (arcs : List Arc) (n : ℕ) (old new : Core) (events : List Event) → Runs s arcs n old events new → begun old ≤ begun new
run-begun s arcs n old new [] runs = (let e = ap begun runs in omega (arith, e))
run-begun s arcs n old new (event ∷ events) runs = (let a = step-begun s arcs n old runs.0 event runs.1 in let b = run-begun s arcs n runs.0 new events runs.2 in omega (arith, a, b))

-- where the first lane can take a node, one is begun
takes-begun : (s : Site) (arcs : List Arc) (n m : ℕ) (old new : Core) → Runs s arcs n old (map Take (numbers_below (suc m))) new → IsPossible s n old (Take 0) → begun old < begun new
takes-begun s arcs n zero old new runs possible = by_step (runs-one_more s arcs n old new Take zero runs)
  where
    by_step : (mid : Core) × Runs s arcs n old [] mid × Steps s arcs n mid (Take 0) new → begun old < begun new
    by_step parts = elim (subst (λ (c : Core). Steps s arcs n c (Take 0) new) parts.1 parts.2) [
      | inl takes ↦ (let e = take-begun s n old 0 new takes in omega (arith, e))
      | inr nothing ↦ absurd (nothing.0 possible)
    ]
takes-begun s arcs n (suc m) old new runs possible =
    let parts = runs-one_more s arcs n old new Take (suc m) runs in
    let a = takes-begun s arcs n m old parts.0 parts.1 possible in
    let b = step-begun s arcs n parts.0 new (Take (suc m)) parts.2 in
    omega (arith, a, b)

-- ---- the number of lanes
happen-lanes : (s : Site) (arcs : List Arc) (n : ℕ) (old : Core) (event : Event) (new : Core) → Happens s arcs n old event new → length new.lanes ≡ length old.lanes
happen-lanes s arcs n old (Take lane) new takes = ap (λ (c : Core). length c.lanes) takes.after ∙ length-set old.lanes lane (Some takes.node)
happen-lanes s arcs n old (Work lane) new works = ap (λ (c : Core). length c.lanes) works.after ∙ length-set old.lanes lane None
happen-lanes s arcs n old (Found cables) new finds = ap (λ (c : Core). length c.lanes) finds.after

step-lanes : (s : Site) (arcs : List Arc) (n : ℕ) (old new : Core) (event : Event) → Steps s arcs n old event new → length new.lanes ≡ length old.lanes
step-lanes s arcs n old new event (inl happens) = happen-lanes s arcs n old event new happens
step-lanes s arcs n old new event (inr nothing) = ap (λ (c : Core). length c.lanes) nothing.1

pub run-lanes : (s : Site) (arcs : List Arc) (n : ℕ) (old new : Core) (events : List Event) → Runs s arcs n old events new → length new.lanes ≡ length old.lanes
run-lanes s arcs n old new [] runs = ap (λ (c : Core). length c.lanes) runs
run-lanes s arcs n old new (event ∷ events) runs = run-lanes s arcs n runs.0 new events runs.2 ∙ step-lanes s arcs n old runs.0 event runs.1

-- ---- empty lanes
-- the lane holds no node
abbrev IsEmptyAt : List (Option ℕ) → ℕ → Type 0
IsEmptyAt lanes i = (v : ℕ) → slice_get lanes i ≡ Some (Some v) → ⊥

-- an emptied lane, and another
emptied : (lanes : List (Option ℕ)) (lane v i : ℕ) → slice_get lanes lane ≡ Some (Some v) → (i ≢ lane → IsEmptyAt lanes i) → IsEmptyAt (slice_set lanes lane None) i
emptied lanes lane v i e other u f = elim (set_either lanes lane None (Some v) e i (Some u) f) [
  | inl r ↦ (let g : ◌≡◌ {A = Option ℕ} None (Some u) = r.1 in cc)
  | inr r ↦ other r.0 u r.1
]

-- a work empties its lane
work-empties : (s : Site) (arcs : List Arc) (n : ℕ) (old new : Core) (lane : ℕ) → Steps s arcs n old (Work lane) new → IsEmptyAt new.lanes lane
work-empties s arcs n old new lane (inl works) =
    subst (λ (c : Core). IsEmptyAt c.lanes lane) (sym works.after) (emptied old.lanes lane works.node lane works.held (λ other. absurd (other refl)))
work-empties s arcs n old new lane (inr nothing) = subst (λ (c : Core). IsEmptyAt c.lanes lane) (sym nothing.1) (λ v e. nothing.0 (v, e))

-- and leaves an empty lane so
work-stays_empty : (s : Site) (arcs : List Arc) (n : ℕ) (old new : Core) (lane i : ℕ) → Steps s arcs n old (Work lane) new → IsEmptyAt old.lanes i → IsEmptyAt new.lanes i
work-stays_empty s arcs n old new lane i (inl works) empty =
    subst (λ (c : Core). IsEmptyAt c.lanes i) (sym works.after) (emptied old.lanes lane works.node i works.held (λ other. empty))
work-stays_empty s arcs n old new lane i (inr nothing) empty = subst (λ (c : Core). IsEmptyAt c.lanes i) (sym nothing.1) empty

-- so the works of the first lanes empty them
works-empty : (s : Site) (arcs : List Arc) (n k : ℕ) (old new : Core) → Runs s arcs n old (map Work (numbers_below k)) new → (i : ℕ) → i < k → IsEmptyAt new.lanes i
works-empty s arcs n zero old new runs i l = absurd (omega (arith, l))
works-empty s arcs n (suc k) old new runs i l = elim (earlier i k l) [
  | inl e ↦ subst (IsEmptyAt new.lanes) (sym e) (work-empties s arcs n parts.0 new k parts.2)
  | inr less ↦ work-stays_empty s arcs n parts.0 new k i parts.2 (works-empty s arcs n k old parts.0 parts.1 i less)
]
  where
    parts : (mid : Core) × Runs s arcs n old (map Work (numbers_below k)) mid × Steps s arcs n mid (Work k) new
    parts = runs-one_more s arcs n old new Work k runs

    earlier : (i k : ℕ) → i < suc k → (i ≡ k) ⊎ (i < k)
    earlier i k l = grind arith

-- ---- a round
-- no lane holds a node after a round
pub round-empty : (s : Site) (arcs : List Arc) (n lanes : ℕ) (old new : Core) → length old.lanes ≡ lanes → Runs s arcs n old (round lanes) new → held_count new ≡ 0
round-empty s arcs n lanes old new count runs =
    let parts = runs-split s arcs n old new (map Take (numbers_below lanes)) (map Work (numbers_below lanes)) runs in
    let same = run-lanes s arcs n old new (round lanes) runs in
    none_holding new.lanes (λ i v e. works-empty s arcs n lanes parts.0 new parts.2 i (let within = slice_get_within new.lanes i (Some v) e in omega (arith, within, same, count)) v e)

-- an empty first lane
first_empty : (lanes : List (Option ℕ)) → 1 ≤ length lanes → count_by is_holding lanes ≡ 0 → slice_get lanes 0 ≡ Some None
first_empty lanes some none = (let at = some_at lanes 0 (omega (arith, some)) in by_lane at.0 at.1)
  where
    by_lane : (lane : Option ℕ) → slice_get lanes 0 ≡ Some lane → slice_get lanes 0 ≡ Some None
    by_lane None e = e
    by_lane (Some v) e = absurd (none_held lanes none 0 v e)

-- a round that begins before the end does some work
pub round-rises : (s : Site) (arcs : List Arc) (n lanes : ℕ) (old new : Core) → IsCore s arcs n old → 1 ≤ lanes → length old.lanes ≡ lanes → held_count old ≡ 0 → ¬ (IsOver s n old)
    → Runs s arcs n old (round lanes) new → old.kept.works < new.kept.works
round-rises s arcs n zero old new core some count none on runs = absurd (omega (arith, some))
round-rises s arcs n (suc m) old new core some count none on runs =
    let parts = runs-split s arcs n old new (map Take (numbers_below (suc m))) (map Work (numbers_below (suc m))) runs in
    let possible = goes_on s arcs n old 0 core none (λ closed. on (inl closed)) (λ spent. on (inr spent)) (first_empty old.lanes (omega (arith, count)) none) in
    let a = takes-begun s arcs n m old parts.0 parts.1 possible in
    let b = run-begun s arcs n parts.0 new (map Work (numbers_below (suc m))) parts.2 in
    let empty = round-empty s arcs n (suc m) old new count runs in
    omega (arith, a, b, none, empty)
