-- Bounds never fall: where each made node's bound is at least some number, so is each later one.
use Rattle.std.proofs.Common.{◌≡◌, ◌≢◌, ℕ, zero, suc, ◌+◌, ◌*◌, ◌^◌, ◌≤◌, inl, inr, ℤ, pos, ◌≤ℤ◌, List, [], ◌∷◌, ◌++◌, slice_get, Some, refl, ap, sym, ◌∙◌, subst, arith}
use Rattle.std.specs.Prelude.{slice_set}
use Rattle.std.proofs.lemmas.Int.{ints}
use Rattle.cable_definitions.specs.declared.cable.Arc.{Arc}
use Rattle.cable_definitions.specs.declared.row.Mark.TheVariants.{Used, Unused}
use Rattle.cable_definitions.specs.declared.row.Act.{Act}
use Rattle.cable_definitions.specs.declared.row.Act.TheVariants.{Split, Stop, Dead, Full}
use Rattle.cable_definitions.specs.Site.{Site, IsValid}
use Rattle.cable_definitions.specs.Arcs.{AreArcs}
use Rattle.cable_definitions.specs.Layout.{cost, Least}
use Rattle.cable_definitions.specs.Budget.{IsNearest}
use Rattle.cable_definitions.specs.Tree.{Status, WasSplit, Stopped, WasDead, WasFull, Node, Item, RowItem, WorkItem, ProofState, root, empty_state, node_of, marks_of, IsBound, worked, child, IsActed, IsWorked, Accepts, Leads, IsAccepted}
use Rattle.layout_laws.proofs.Nearest.{Least-nearest}
use Rattle.proof_laws.specs.OutWeights.{AreOutWeights}
use Rattle.proof_laws.proofs.Boxes.{set_either, append_either}
use Rattle.proof_laws.proofs.Sound.{IsSound, sound-accepts, sound-accepted, children, set_at_node}
use Rattle.proof_laws.proofs.NearestValue.{value-nearest}

-- each node's bound is at least this
abbrev pub AreAbove : ℕ → List Node → Type 0
AreAbove m nodes = (i : ℕ) (x : Node) → slice_get nodes i ≡ Some x → m ≤ x.bound

-- each other node's bound is at least this
abbrev pub AreAboveBut : ℕ → ℕ → List Node → Type 0
AreAboveBut m i nodes = (j : ℕ) (x : Node) → j ≢ i → slice_get nodes j ≡ Some x → m ≤ x.bound

-- a node is worked
above-set : (m : ℕ) (nodes : List Node) (i : ℕ) (node : Node) (bound : ℕ) (status : Status) → AreAboveBut m i nodes → slice_get nodes i ≡ Some node → m ≤ bound
    → AreAbove m (slice_set nodes i (worked node bound status))
above-set m nodes i node bound status above e h j x f = elim (set_either nodes i (worked node bound status) node e j x f) [
  | inl here ↦ (let b : bound ≡ x.bound = ap (λ (n : Node). n.bound) here.1 in omega arith)
  | inr there ↦ above j x there.0 there.1
]

-- and its children are made
above-split : (m : ℕ) (nodes : List Node) (v bound a : ℕ) → AreAbove m nodes → m ≤ bound → AreAbove m (nodes ++ children v bound a)
above-split m nodes v bound a above h j x f = elim (append_either nodes (children v bound a) j x f) [
  | inl there ↦ above j x there
  | inr c ↦ by_child c.0 c.2
]
  where
    by_child : (k : ℕ) → slice_get (children v bound a) k ≡ Some x → m ≤ x.bound
    by_child zero e = let b : bound ≡ x.bound = ap (λ (n : Node). n.bound) (let q : child v bound a Used ≡ x = cc in q) in omega arith
    by_child (suc zero) e = let b : bound ≡ x.bound = ap (λ (n : Node). n.bound) (let q : child v bound a Unused ≡ x = cc in q) in omega arith
    by_child (suc (suc k)) e = absurd (cc)

-- an act whose bound is at least that, as the cost of each legal layout is
above-acted : (s : Site) (arcs : List Arc) (m : ℕ) (old : ProofState) (i : ℕ) (node : Node) (value : ℤ) (act : Act) (nodes : List Node) → Least s m → AreAboveBut m i old.nodes
    → slice_get old.nodes i ≡ Some node → ((bound : ℕ) → IsBound node.bound value bound → m ≤ bound) → IsActed s arcs old (suc i) node value act nodes → AreAbove m nodes
above-acted s arcs m old i node value (Split a) nodes least above e h acted =
    subst (AreAbove m) (sym (acted.3 ∙ ap (λ xs. xs ++ children (suc i) acted.0 a) (set_at_node i old.nodes (worked node acted.0 WasSplit))))
    (above-split m (slice_set old.nodes i (worked node acted.0 WasSplit)) (suc i) acted.0 a (above-set m old.nodes i node acted.0 WasSplit above e (h acted.0 acted.1)) (h acted.0 acted.1))
above-acted s arcs m old i node value Stop nodes least above e h acted =
    subst (AreAbove m) (sym (acted.2 ∙ set_at_node i old.nodes (worked node acted.0 Stopped))) (above-set m old.nodes i node acted.0 Stopped above e (h acted.0 acted.1))
above-acted s arcs m old i node value (Dead why) nodes least above e h acted =
    subst (AreAbove m) (sym (acted.3 ∙ set_at_node i old.nodes (worked node acted.0 WasDead))) (above-set m old.nodes i node acted.0 WasDead above e (h acted.0 acted.1))
above-acted s arcs m old i node value Full nodes least above e h acted =
    subst (AreAbove m) (sym (acted.2 ∙ set_at_node i old.nodes (worked node (cost s acted.0) WasFull)))
    (above-set m old.nodes i node (cost s acted.0) WasFull above e (least acted.0 acted.1.legal))

-- each legal layout costs at least what all bounds are at least
least-above : (s : Site) (arcs : List Arc) (kept : ProofState) (m : ℕ) → IsSound s arcs kept → AreAbove m kept.nodes → Least s m
least-above s arcs kept m sound above cables g =
    let c = sound.nodes.cover cables g in
    let low = above c.place c.node c.made in
    let high = sound.nodes.bounds c.place c.node c.made cables g c.in_box in
    omega arith

-- no item takes a bound below, ..
above-accepts : (s : Site) (arcs : List Arc) (n m : ℕ) (old new : ProofState) (item : Item) → IsSound s arcs old → Accepts s arcs n old item new → AreAbove m old.nodes → AreAbove m new.nodes
above-accepts s arcs n m old new (RowItem row) sound l above = subst (AreAbove m) (sym l.nodes) above
above-accepts s arcs n m old new (WorkItem zero weights act) sound w above = absurd (let e = w.made in cc)
above-accepts s arcs n m old new (WorkItem (suc i) weights act) sound w above =
    above-acted s arcs m old i w.node w.value act new.nodes (least-above s arcs old m sound above) (λ j x k e. above j x e) w.made
    (λ bound b. let low = above i w.node w.made in let high : w.node.bound ≤ bound = b.parent in omega arith) w.acted

-- .. so no further items do
above-leads : (s : Site) (arcs : List Arc) (n m : ℕ) (items : List Item) (old new : ProofState) → IsValid s → AreArcs s arcs → IsSound s arcs old → Leads s arcs n old items new
    → AreAbove m old.nodes → AreAbove m new.nodes
above-leads s arcs n m [] old new v are sound l above = subst (AreAbove m) (sym (ap (λ (k : ProofState). k.nodes) l)) above
above-leads s arcs n m (item ∷ items) old new v are sound l above =
    above-leads s arcs n m items l.0 new v are (sound-accepts s arcs n old l.0 item v are sound l.1) l.2 (above-accepts s arcs n m old l.0 item sound l.1 above)

-- the same by the numbers of the nodes
above-by_number : (m : ℕ) (nodes : List Node) → AreAbove m nodes → (v : ℕ) (node : Node) → node_of nodes v ≡ Some node → m ≤ node.bound
above-by_number m nodes above zero node e = absurd (cc)
above-by_number m nodes above (suc i) node e = above i node e

-- where each made node's bound is at least m, so is each later one
pub bounds-stay : (s : Site) (arcs : List Arc) (n m : ℕ) (items more : List Item) (old new : ProofState) → IsValid s → AreArcs s arcs → IsAccepted s arcs n items old → Leads s arcs n old more new
    → ((v : ℕ) (node : Node) → node_of old.nodes v ≡ Some node → m ≤ node.bound) → (v : ℕ) (node : Node) → node_of new.nodes v ≡ Some node → m ≤ node.bound
bounds-stay s arcs n m items more old new valid are accepted l h =
    above-by_number m new.nodes (above-leads s arcs n m more old new valid are (sound-accepted s arcs n items old valid are accepted) l (λ i x e. h (suc i) x e))

-- without works there is node 1 alone
pub unworked-root : (s : Site) (arcs : List Arc) (n : ℕ) (items : List Item) (old new : ProofState) → Leads s arcs n old items new → (old.works ≡ 0 → old.nodes ≡ root ∷ []) → new.works ≡ 0 → new.nodes ≡ root ∷ []
unworked-root s arcs n [] old new l h e = ap (λ (k : ProofState). k.nodes) l ∙ h (sym (ap (λ (k : ProofState). k.works) l) ∙ e)
unworked-root s arcs n (RowItem row ∷ items) old new l h e = unworked-root s arcs n items l.0 new l.2 (λ f. l.1.nodes ∙ h (sym l.1.works ∙ f)) e
unworked-root s arcs n (WorkItem v weights act ∷ items) old new l h e =
    unworked-root s arcs n items l.0 new l.2 (λ f. absurd (let w : l.0.works ≡ old.works + 1 = l.1.works in omega arith)) e

-- where each legal layout costs at least m, and the value of the first work reaches that, no bound after it is below m
pub bounds-first : (s : Site) (arcs : List Arc) (n m : ℕ) (items more : List Item) (old mid new : ProofState) (v : ℕ) (weights : List (ℕ × ℤ)) (act : Act) → IsValid s → AreArcs s arcs → Least s m
    → IsAccepted s arcs n items old → old.works ≡ 0 → (work : IsWorked s arcs n old v weights act mid) → pos (2 ^ 20 * m) ≤ℤ work.value → Leads s arcs n mid more new
    → (u : ℕ) (node : Node) → node_of new.nodes u ≡ Some node → m ≤ node.bound
bounds-first s arcs n m items more old mid new zero weights act valid are least accepted none w low l = absurd (let e = w.made in cc)
bounds-first s arcs n m items more old mid new (suc i) weights act valid are least accepted none w low l =
    above-by_number m new.nodes
    (above-leads s arcs n m more mid new valid are (sound-accepts s arcs n old mid (WorkItem (suc i) weights act) valid are (sound-accepted s arcs n items old valid are accepted) w) l
    (above-acted s arcs m old i w.node w.value act mid.nodes least others w.made (λ bound b. scaled m bound w.value low b.value_below) w.acted))
  where
    alone : old.nodes ≡ root ∷ []
    alone = unworked-root s arcs n items empty_state old accepted (λ e. refl) none

    one_place : (i j : ℕ) (x y : Node) → slice_get (root ∷ []) i ≡ Some x → slice_get (root ∷ []) j ≡ Some y → j ≡ i
    one_place zero zero x y e f = refl
    one_place zero (suc j) x y e f = absurd (cc)
    one_place (suc i) j x y e f = absurd (cc)

    others : AreAboveBut m i old.nodes
    others j x other e = absurd (other (one_place i j w.node x (ap (λ xs. slice_get xs i) (sym alone) ∙ w.made) (ap (λ xs. slice_get xs j) (sym alone) ∙ e)))

    scaled : (a b : ℕ) (z : ℤ) → pos (2 ^ 20 * a) ≤ℤ z → z ≤ℤ pos (2 ^ 20 * b) → a ≤ b
    scaled a b z l h = omega (arith, ints)

-- the weights of the nearest arcs are such, so they leave no bound below the sum of the least costs out of the turbines
pub bounds-nearest : (s : Site) (arcs : List Arc) (n nearest : ℕ) (items more : List Item) (old mid new : ProofState) (v : ℕ) (weights : List (ℕ × ℤ)) (act : Act) → IsValid s → AreArcs s arcs → IsNearest s nearest
    → IsAccepted s arcs n items old → old.works ≡ 0 → IsWorked s arcs n old v weights act mid → AreOutWeights s arcs old.rows (marks_of arcs old.nodes v) weights → Leads s arcs n mid more new
    → (u : ℕ) (node : Node) → node_of new.nodes u ≡ Some node → nearest ≤ node.bound
bounds-nearest s arcs n nearest items more old mid new v weights act valid are total accepted none w out l =
    bounds-first s arcs n nearest items more old mid new v weights act valid are (Least-nearest s nearest total) accepted none w
    (value-nearest s arcs old.rows (marks_of arcs old.nodes v) weights w.value nearest out w.is_value total) l
