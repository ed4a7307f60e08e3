-- The parts of a search together.
use Rattle.std.proofs.Common.{◌≡◌, ℕ, ◌≤◌, inl, inr, List, [], ◌++◌, Some, None, Option, Result, Ok, Err, map, refl, sym, ◌∙◌, ap, subst, arith}
use Rattle.std.specs.Prelude.{OnErr, IsErr, IsErrAnd, drop}
use Rattle.std.specs.List.{concat}
use Rattle.std.proofs.lemmas.List.{append-nil, length-replicate}
use Rattle.cable_definitions.specs.declared.cable.Cable.{Cable}
use Rattle.cable_definitions.specs.declared.cable.Arc.{Arc}
use Rattle.cable_definitions.specs.declared.claim.Claim.{Claim}
use Rattle.cable_definitions.specs.Site.{Site, IsValid}
use Rattle.cable_definitions.specs.Arcs.{AreArcs}
use Rattle.cable_definitions.specs.Row.{Row}
use Rattle.cable_definitions.specs.Tree.{Node, Item, root, empty_state, node_of}
use Rattle.cable_definitions.specs.Text.{item_lines}
use Rattle.cable_definitions.specs.Core.{Core, Found, Steps, Runs, held_count, first_core, are_row_items}
use Rattle.cable_text.specs.declared.stream.Failed.{Failed}
use Rattle.cable_definitions.specs.Stream.{StreamState, FaultsRose, FaultsOnlyRise, Appends, Writes}
use Rattle.cable_text.proofs.Writing.{Appends-nothing}
use Rattle.run_definitions.specs.Rounds.{found, LeadToEnd}
use Rattle.search_laws.specs.Cores.{IsCore}
use Rattle.search_laws.proofs.Starting.{first-core}
use Rattle.search_laws.proofs.Stepping.{run-core}
use Rattle.search_laws.proofs.Lanes.{none_at_first}
use Rattle.search_core.specs.declared.searching.SearchFault.{SearchFault}
use Rattle.search_core.specs.declared.searching.SearchFault.TheVariants.{Write}
use Rattle.search_parts.specs.declared.start.Settled.{Settled}
use Rattle.search_parts.specs.declared.start.Incumbent.{Incumbent}
use Rattle.search_parts.specs.declared.start.Incumbent.TheVariants.{Known, Part}
use Rattle.search_parts.specs.Start.{BeatsStraight, CanBegin, layout_of}
use Rattle.search_parts.specs.Rounds.{IsIdle}
use Rattle.search_parts.specs.Outcome.{FindsPlan, WritesPart}
use Rattle.search_parts.specs.Ended.{IsRootFloored, IsNoDearer, HasEnded, IsConcluded}
use Rattle.search_core.specs.Advances.{Tells, Advances}
use Rattle.search_parts.proofs.Rounding.{lead-end, lead-core, lead-falls}
use Rattle.search_parts.proofs.Keeping.{AreFoundInOrder, run-in_order, rounds-in_order}
use Rattle.search_parts.proofs.Emptying.{run-lanes}
use Rattle.search_core.proofs.Advancing.{tells-then, tells-ok, tells-written, tells-failed, advances-failed}
use Rattle.search_core.proofs.Writing.{lines-then}

-- ---- the state in which the rounds begin
-- a layout that is found changes nothing else
pub record IsSameBut (old new : Core) : Type 0 where
  pub items : new.items ≡ old.items
  pub lanes : new.lanes ≡ old.lanes
  pub nodes : new.kept.nodes ≡ old.kept.nodes

same-found : (s : Site) (arcs : List Arc) (n : ℕ) (old new : Core) (cables : List Cable) → Steps s arcs n old (Found cables) new → IsSameBut old new
same-found s arcs n old new cables (inl finds) = record { items = ap (λ (c : Core). c.items) finds.after; lanes = ap (λ (c : Core). c.lanes) finds.after; nodes = ap (λ (c : Core). c.kept.nodes) finds.after }
same-found s arcs n old new cables (inr nothing) = record { items = ap (λ (c : Core). c.items) nothing.1; lanes = ap (λ (c : Core). c.lanes) nothing.1; nodes = ap (λ (c : Core). c.kept.nodes) nothing.1 }

pub same-begun : (s : Site) (arcs : List Arc) (n : ℕ) (old new : Core) (start : Option (List Cable)) → Runs s arcs n old (found start) new → IsSameBut old new
same-begun s arcs n old new None runs = record { items = ap (λ (c : Core). c.items) runs; lanes = ap (λ (c : Core). c.lanes) runs; nodes = ap (λ (c : Core). c.kept.nodes) runs }
same-begun s arcs n old new (Some cables) runs = subst (IsSameBut old) (sym runs.2) (same-found s arcs n old runs.0 cables runs.1)

-- the state after the layout to begin with
pub begun-idle : (s : Site) (arcs : List Arc) (n lanes : ℕ) (start : Option (List Cable)) (begun : Core) → IsValid s → AreArcs s arcs → Runs s arcs n (first_core s lanes) (found start) begun → IsIdle s arcs n lanes begun
begun-idle s arcs n lanes start begun valid are runs =
    let same = same-begun s arcs n (first_core s lanes) begun start runs in
    record {
      is_core = run-core s arcs n (first_core s lanes) begun (found start) valid are (first-core s arcs n lanes valid) runs;
      count = run-lanes s arcs n (first_core s lanes) begun (found start) runs ∙ length-replicate lanes None;
      empty = ap (λ (xs : List (Option ℕ)). held_count (record begun { lanes = xs })) same.lanes ∙ none_at_first lanes;
    }

-- node 1 isn't worked yet
pub begun-floored : (s : Site) (arcs : List Arc) (n lanes : ℕ) (start : Option (List Cable)) (begun : Core) → Runs s arcs n (first_core s lanes) (found start) begun → IsRootFloored s begun.kept.nodes
begun-floored s arcs n lanes start begun runs first made worked =
    let same = same-begun s arcs n (first_core s lanes) begun start runs in
    let e : Some root ≡ Some first = sym (ap (λ (nodes : List Node). node_of nodes 1) same.nodes) ∙ made in
    let is : root ≡ first = cc in
    absurd (worked (ap (λ (node : Node). node.status) (sym is)))

-- the layout to begin with is known then
begun-known : (s : Site) (arcs : List Arc) (n lanes : ℕ) (settled : Settled) (begun : Core) → CanBegin s (Known settled) → Runs s arcs n (first_core s lanes) (found (Some settled.layout)) begun → begun.known ≡ Some settled.layout
begun-known s arcs n lanes settled begun is runs = ap (λ (c : Core). c.known) runs.2 ∙ known runs.1
  where
    known : Steps s arcs n (first_core s lanes) (Found settled.layout) runs.0 → runs.0.known ≡ Some settled.layout
    known (inl finds) = ap (λ (c : Core). c.known) finds.after
    known (inr nothing) = absurd (nothing.0 (is.1.legal, tt))

-- ---- the end of the rounds
-- no layout that is known at the end costs more than the one to begin with
ended-no_dearer : (s : Site) (arcs : List Arc) (n lanes rounds : ℕ) (start : Incumbent) (begun ended : Core) → CanBegin s start → Runs s arcs n (first_core s lanes) (found (layout_of start)) begun
    → LeadToEnd s arcs n lanes rounds begun ended → IsNoDearer s start ended.known
ended-no_dearer s arcs n lanes rounds (Part part turbine) begun ended is runs lead = tt
ended-no_dearer s arcs n lanes rounds (Known settled) begun ended is runs lead =
    let falls = lead-falls s arcs n lanes rounds begun ended settled.layout lead (begun-known s arcs n lanes settled begun is runs) in
    let low = falls.2 in
    let costs = is.1.cost_is in
    (falls.0, falls.1, omega (arith, low, costs))

-- the layout to begin with is in order
found-first : (s : Site) (start : Incumbent) → CanBegin s start → AreFoundInOrder (found (layout_of start))
found-first s (Part part turbine) is = tt
found-first s (Known settled) is = (is.1.in_order, tt)

pub ended-all : (s : Site) (arcs : List Arc) (n lanes rounds : ℕ) (start : Incumbent) (begun ended : Core) → IsValid s → AreArcs s arcs → 1 ≤ n → CanBegin s start → BeatsStraight s start
    → Runs s arcs n (first_core s lanes) (found (layout_of start)) begun → LeadToEnd s arcs n lanes rounds begun ended → IsRootFloored s ended.kept.nodes → HasEnded s arcs n start ended
ended-all s arcs n lanes rounds start begun ended valid are some is straight runs lead floored = record {
  valid = valid;
  are_arcs = are;
  some = some;
  is_core = lead-core s arcs n lanes rounds begun ended valid are (begun-idle s arcs n lanes (layout_of start) begun valid are runs).is_core lead;
  at_end = lead-end s arcs n lanes rounds begun ended lead;
  straight = straight;
  no_dearer = ended-no_dearer s arcs n lanes rounds start begun ended is runs lead;
  in_order = rounds-in_order s arcs n lanes rounds begun ended are lead
      (run-in_order s arcs n (first_core s lanes) begun (found (layout_of start)) are (found-first s start is) runs (λ cables e. absurd (cc)));
  floored = floored;
}

-- ---- what was written
-- the lines of the first items, and then those of a part
pub tells-all : {A B : Type 0} (lanes : ℕ) (start : Option (List Cable)) {u : A} {r : Result B SearchFault} {s : Site} {arcs : List Arc} {n : ℕ} {begun : Core} {Reached : Core → Type 0} {now : List Item → Core} {a b c : StreamState} → Runs s arcs n (first_core s lanes) (found start) begun → Tells {A = A} (Ok u) a b (concat (map item_lines (first_core s lanes).items)) → (p : Advances r s arcs n begun Reached now b c)
    → Tells r a c (concat (map item_lines p.core.items))
tells-all lanes start {r = r} {s} {arcs} {n} {begun} {a = a} {b} {c} runs told p =
    let first : List Item = (first_core s lanes).items in
    let same = same-begun s arcs n (first_core s lanes) begun start runs in
    let items : p.core.items ≡ first ++ p.items = p.added ∙ ap (λ (xs : List Item). xs ++ p.items) same.items in
    subst (λ (text : List ℕ). Tells r a c text) (sym (ap (λ (xs : List Item). concat (map item_lines xs)) items ∙ lines-then first p.items)) (tells-then told p.tells)

-- what stands where a search stops early
pub part-told : {A : Type 0} (r : Result A SearchFault) (s : Site) (arcs : List Arc) (n : ℕ) (core : Core) (a b : StreamState) → IsCore s arcs n core → Tells r a b (concat (map item_lines core.items))
    → OnErr r (WritesPart s arcs n a.bytes b.bytes)
part-told (Ok u) s arcs n core a b is told = tt
part-told (Err f) s arcs n core a b is told = record { items = core.items; kept = core.kept; accepted = is.accepted; written = told.part }

-- where memory was lacking before anything was written
pub part-none : {A : Type 0} (r : Result A SearchFault) (s : Site) (arcs : List Arc) (n : ℕ) (a : Option (List ℕ)) → OnErr r (WritesPart s arcs n a a)
part-none (Ok u) s arcs n a = tt
part-none (Err f) s arcs n a = record { items = []; kept = empty_state; accepted = refl; written = ([], [], refl, Appends-nothing a) }

-- where all was written and then memory was lacking
pub part-whole : {A B : Type 0} {u : A} (r : Result B SearchFault) (s : Site) (arcs : List Arc) (n : ℕ) (core : Core) (a b : StreamState) → IsCore s arcs n core
    → Tells {A = A} (Ok u) a b (concat (map item_lines core.items)) → OnErr r (WritesPart s arcs n a.bytes b.bytes)
part-whole (Ok v) s arcs n core a b is told = tt
part-whole (Err f) s arcs n core a b is told = record {
  items = core.items;
  kept = core.kept;
  accepted = is.accepted;
  written = (concat (map item_lines core.items), [], sym (append-nil (concat (map item_lines core.items))), told.whole);
}

-- ---- the plan
pub finds : (s : Site) (arcs : List Arc) (n lanes rounds : ℕ) (start : Option (List Cable)) (begun ended last : Core) (cables : List Cable) (claim : Claim) (a b : Option (List ℕ)) → IsValid s → AreArcs s arcs
    → Runs s arcs n (first_core s lanes) (found start) begun → LeadToEnd s arcs n lanes rounds begun ended → IsConcluded s arcs n ended last cables claim
    → Appends a b (concat (map item_lines ended.items)) → FindsPlan s arcs n lanes a b cables claim
finds s arcs n lanes rounds start begun ended last cables claim a b valid are runs lead concluded written = record {
  core = last;
  searched = record {
    start = start;
    begun = begun;
    begins = runs;
    rounds = rounds;
    ended = ended;
    leads = lead;
    last = concluded.last;
    settled = concluded.settled;
    ends = concluded.ends;
  };
  accepted = (run-core s arcs n ended last (found concluded.last) valid are
      (lead-core s arcs n lanes rounds begun ended valid are (begun-idle s arcs n lanes start begun valid are runs).is_core lead) concluded.ends).accepted;
  outcome = concluded.outcome;
  known = concluded.known;
  floor = concluded.floor;
  in_trees = concluded.in_trees;
  no_in_tree = concluded.no_in_tree;
  written = subst (λ (xs : List Item). Appends a b (concat (map item_lines xs))) (sym concluded.items) written;
}

-- ---- told of equal parts
-- the lines of the first rows are those of the first items
pub first-text : (s : Site) (lanes : ℕ) (pool rows : List Row) (first : Core) → pool ≡ rows → first.kept.rows ≡ rows → first ≡ first_core s lanes
    → concat (map item_lines (are_row_items (drop 0 pool))) ≡ concat (map item_lines (first_core s lanes).items)
first-text s lanes pool rows first e f is = ap (λ (xs : List Row). concat (map item_lines (are_row_items xs))) (e ∙ sym f ∙ ap (λ (c : Core). c.kept.rows) is)

-- the layout to begin with is found in the first state
pub begins-at : (n lanes : ℕ) (begun : Core) (start : Option (List Cable)) {s t : Site} {arcs brcs : List Arc} {old : Core} → s ≡ t → arcs ≡ brcs → old ≡ first_core t lanes → Runs s arcs n old (found start) begun
    → Runs t brcs n (first_core t lanes) (found start) begun
begins-at n lanes begun start {t = t} {arcs} {brcs} {old} e f is runs =
    subst (λ (c : Core). Runs t brcs n c (found start) begun) is (subst (λ (xs : List Arc). Runs t xs n old (found start) begun) f (subst (λ (x : Site). Runs x arcs n old (found start) begun) e runs))

pub idle-at : {s t : Site} {arcs brcs : List Arc} {n m lanes : ℕ} {core : Core} → s ≡ t → arcs ≡ brcs → n ≡ m → IsIdle s arcs n lanes core → IsIdle t brcs m lanes core
idle-at {t = t} {arcs} {brcs} {n} {lanes = lanes} {core} e f g h =
    subst (λ (k : ℕ). IsIdle t brcs k lanes core) g (subst (λ (xs : List Arc). IsIdle t xs n lanes core) f (subst (λ (x : Site). IsIdle x arcs n lanes core) e h))

-- a part that leads to the end
abbrev pub Ends : Site → List Arc → ℕ → ℕ → Core → Core → Type 0
Ends s arcs n lanes old after = (rounds : ℕ) × LeadToEnd s arcs n lanes rounds old after

pub ends-at : {A : Type 0} (lanes : ℕ) {r : Result A SearchFault} {s t : Site} {arcs brcs : List Arc} {n m : ℕ} {old : Core} {now : List Item → Core} {a b : StreamState} → s ≡ t → arcs ≡ brcs → n ≡ m
    → Advances r s arcs n old (Ends s arcs n lanes old) now a b → Advances r t brcs m old (Ends t brcs m lanes old) now a b
ends-at lanes {r} {s} {t} {arcs} {brcs} {n} {m} {old} {now} {a} {b} e f g h =
    subst (λ (k : ℕ). Advances r t brcs k old (Ends t brcs k lanes old) now a b) g
    (subst (λ (xs : List Arc). Advances r t xs n old (Ends t xs n lanes old) now a b) f (subst (λ (x : Site). Advances r x arcs n old (Ends x arcs n lanes old) now a b) e h))

-- ---- all of it
-- a search from its first state, whose rows were written, to where its rounds ended
pub record IsWhole (s : Site) (arcs : List Arc) (n lanes : ℕ) (start : Incumbent) (begun : Core) (now : List Item → Core) (a b : StreamState) : Type 0 where
  pub rounds : ℕ
  pub items : List Item
  pub lead : LeadToEnd s arcs n lanes rounds begun (now items)
  pub has_ended : HasEnded s arcs n start (now items)
  pub same : (now items).items ≡ items
  pub told : Tells {A = Unit {0}} (Ok tt) a b (concat (map item_lines (now items).items))

pub whole : {A : Type 0} {u : A} {s : Site} {arcs : List Arc} {n : ℕ} (lanes : ℕ) (start : Incumbent) {begun : Core} {now : List Item → Core} {a b c : StreamState}
    → ((items : List Item) → (now items).items ≡ items) → IsValid s → AreArcs s arcs → 1 ≤ n → CanBegin s start → BeatsStraight s start → Runs s arcs n (first_core s lanes) (found (layout_of start)) begun
    → Tells {A = Unit {0}} (Ok tt) a b (concat (map item_lines (first_core s lanes).items)) → Advances {A = A} (Ok u) s arcs n begun (Ends s arcs n lanes begun) now b c
    → ((items : List Item) → IsRootFloored s (now items).kept.nodes) → IsWhole s arcs n lanes start begun now a c
whole {u = u} {s} {arcs} {n} lanes start {begun} {now} {a} {b} {c} named valid are some is straight runs told p floored =
    let items : List Item = p.core.items in
    let at : p.core ≡ now items = p.reached.1 in
    let lead : LeadToEnd s arcs n lanes p.reached.0.0 begun (now items) = subst (LeadToEnd s arcs n lanes p.reached.0.0 begun) at p.reached.0.1 in
    record {
      rounds = p.reached.0.0;
      items = items;
      lead = lead;
      has_ended = ended-all s arcs n lanes p.reached.0.0 start begun (now items) valid are some is straight runs lead (floored items);
      same = named items;
      told = tells-ok tt (subst (λ (x : Core). Tells (Ok u) a c (concat (map item_lines x.items))) at (tells-all lanes (layout_of start) runs told p));
    }

-- where the rounds stopped early
pub record IsStopped {A : Type 0} (r : Result A SearchFault) (s : Site) (arcs : List Arc) (n : ℕ) (a b : StreamState) : Type 0 where
  pub part : OnErr r (WritesPart s arcs n a.bytes b.bytes)
  pub failed : r ≡ Err Write → FaultsRose a b
  pub count : FaultsOnlyRise a b

pub stopped-early : {A B : Type 0} (lanes : ℕ) (start : Option (List Cable)) {f : SearchFault} {r : Result B SearchFault} {s : Site} {arcs : List Arc} {n : ℕ} {begun : Core} {Reached : Core → Type 0} {now : List Item → Core}
    {a b c : StreamState} → IsValid s → AreArcs s arcs → Runs s arcs n (first_core s lanes) (found start) begun
    → Tells {A = Unit {0}} (Ok tt) a b (concat (map item_lines (first_core s lanes).items)) → IsErr r → IsErrAnd r (λ fault. fault ≡ f) → Advances {A = A} (Err f) s arcs n begun Reached now b c → IsStopped r s arcs n a c
stopped-early lanes start {r = r} {s} {arcs} {n} {begun} {now = now} {a} {b} {c} valid are runs told h e p =
    let q : Advances r s arcs n begun (λ after. Unit {0}) now b c = advances-failed h e p in
    let all = tells-all lanes start runs told q in
    record {
      part = part-told r s arcs n q.core a c (run-core s arcs n begun q.core q.events valid are (begun-idle s arcs n lanes start begun valid are runs).is_core q.runs) all;
      failed = all.failed;
      count = all.count;
    }

-- the first rows, written
pub told-first : {A : Type 0} {u : A} {a b : StreamState} (s : Site) (lanes : ℕ) (pool rows : List Row) (first : Core) → pool ≡ rows → first.kept.rows ≡ rows → first ≡ first_core s lanes
    → Writes {A = A} {E = Failed} (Ok u) a b (concat (map item_lines (are_row_items (drop 0 pool)))) → Tells {A = Unit {0}} (Ok tt) a b (concat (map item_lines (first_core s lanes).items))
told-first {A} {u} {a} {b} s lanes pool rows first e f is p =
    tells-written tt (subst (λ (text : List ℕ). Writes {A = A} {E = Failed} (Ok u) a b text) (first-text s lanes pool rows first e f is) p)

-- and not written whole
pub failed-first : {A B : Type 0} {f : Failed} {r : Result B SearchFault} {a b : StreamState} (s : Site) (lanes : ℕ) (pool rows : List Row) (first : Core) → pool ≡ rows → first.kept.rows ≡ rows → first ≡ first_core s lanes
    → IsErr r → Writes {A = A} {E = Failed} (Err f) a b (concat (map item_lines (are_row_items (drop 0 pool)))) → Tells r a b (concat (map item_lines (first_core s lanes).items))
failed-first {A} {f = f} {a = a} {b} s lanes pool rows first e g is h p =
    tells-failed h (subst (λ (text : List ℕ). Writes {A = A} {E = Failed} (Err f) a b text) (first-text s lanes pool rows first e g is) p)
