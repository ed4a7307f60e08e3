-- How the boxes of the made nodes go on: node 1 holds every layout, later items change no mark, and a split divides a box.
use Rattle.std.proofs.Common.{◌≡◌, ℕ, zero, suc, ◌+◌, ◌<◌, ◌≤◌, ◌⊎◌, inl, inr, Bool, true, false, cond, ℤ, List, [], ◌∷◌, ◌++◌, length, map, slice_get, Some, refl, ap, sym, ◌∙◌, subst, arith, eq-eqb, ne_eqb}
use Rattle.std.specs.Prelude.{◌==◌, slice_set}
use Rattle.std.specs.List.{enumerate_from}
use Rattle.std.proofs.Math.ListN.{length-set}
use Rattle.cable_definitions.specs.declared.cable.Cable.{Cable}
use Rattle.cable_definitions.specs.declared.cable.Arc.{Arc}
use Rattle.cable_definitions.specs.declared.row.Mark.{Mark}
use Rattle.cable_definitions.specs.declared.row.Mark.TheVariants.{Free, Used, Unused}
use Rattle.cable_definitions.specs.declared.row.Act.{Act}
use Rattle.cable_definitions.specs.declared.row.Act.TheVariants.{Split, Stop, Dead, Full}
use Rattle.cable_definitions.specs.Site.{Site, IsValid}
use Rattle.cable_definitions.specs.Arcs.{AreArcs}
use Rattle.cable_definitions.specs.Layout.{cost}
use Rattle.cable_definitions.specs.Row.{has_arc}
use Rattle.cable_definitions.specs.Choice.{IsKept, IsInBox}
use Rattle.cable_definitions.specs.Tree.{Status, WasSplit, Stopped, WasDead, WasFull, Node, Item, RowItem, WorkItem, ProofState, root, empty_state, mark_in, marks_of, worked, IsActed, IsWorked, Accepts, Leads, IsAccepted}
use Rattle.proof_laws.proofs.Lists.{some_at}
use Rattle.proof_laws.proofs.Boxes.{marks-box, marks_of-at, AreParentsBefore, AreStillMade, still_made, mark_in-still, box-still, IsChild, mark_in-child_is, box-of_child, box-keeps}
use Rattle.proof_laws.proofs.Sound.{sound-accepted, IsReplaced, children, split_nodes, replaced-set, replaced-split, replaced-still, split-child, set_at_node}

-- an act replaces the node
pub acted-replaced : (s : Site) (arcs : List Arc) (old : ProofState) (i : ℕ) (node : Node) (value : ℤ) (act : Act) (nodes : List Node) → slice_get old.nodes i ≡ Some node
    → IsActed s arcs old (suc i) node value act nodes → (bound : ℕ) × (status : Status) × IsReplaced old.nodes nodes i node bound status
acted-replaced s arcs old i node value (Split a) nodes e acted = (
  acted.0,
  WasSplit,
  subst (λ xs. IsReplaced old.nodes xs i node acted.0 WasSplit) (sym (acted.3 ∙ ap (λ xs. xs ++ children (suc i) acted.0 a) (set_at_node i old.nodes (worked node acted.0 WasSplit))))
      (replaced-split old.nodes i node acted.0 WasSplit (children (suc i) acted.0 a) e),
)
acted-replaced s arcs old i node value Stop nodes e acted = (
  acted.0,
  Stopped,
  subst (λ xs. IsReplaced old.nodes xs i node acted.0 Stopped) (sym (acted.2 ∙ set_at_node i old.nodes (worked node acted.0 Stopped))) (replaced-set old.nodes i node acted.0 Stopped e),
)
acted-replaced s arcs old i node value (Dead why) nodes e acted = (
  acted.0,
  WasDead,
  subst (λ xs. IsReplaced old.nodes xs i node acted.0 WasDead) (sym (acted.3 ∙ set_at_node i old.nodes (worked node acted.0 WasDead))) (replaced-set old.nodes i node acted.0 WasDead e),
)
acted-replaced s arcs old i node value Full nodes e acted = (
  cost s acted.0,
  WasFull,
  subst (λ xs. IsReplaced old.nodes xs i node (cost s acted.0) WasFull) (sym (acted.2 ∙ set_at_node i old.nodes (worked node (cost s acted.0) WasFull)))
      (replaced-set old.nodes i node (cost s acted.0) WasFull e),
)

-- an item leaves the old nodes made
pub still-accepts : (s : Site) (arcs : List Arc) (n : ℕ) (old new : ProofState) (item : Item) → Accepts s arcs n old item new → AreStillMade old.nodes new.nodes
still-accepts s arcs n old new (RowItem row) l = subst (AreStillMade old.nodes) (sym l.nodes) (still_made old.nodes)
still-accepts s arcs n old new (WorkItem zero weights act) w = absurd (let e = w.made in cc)
still-accepts s arcs n old new (WorkItem (suc i) weights act) w =
    let r = acted-replaced s arcs old i w.node w.value act new.nodes w.made w.acted in
    replaced-still old.nodes new.nodes i w.node r.0 r.1 r.2

-- so do further items
pub still-leads : (s : Site) (arcs : List Arc) (n : ℕ) (items : List Item) (old new : ProofState) → Leads s arcs n old items new → AreStillMade old.nodes new.nodes
still-leads s arcs n [] old new l = subst (AreStillMade old.nodes) (sym (ap (λ (k : ProofState). k.nodes) l)) (still_made old.nodes)
still-leads s arcs n (item ∷ items) old new l = λ i x e.
    let a = still-accepts s arcs n old l.0 item l.1 i x e in
    let b = still-leads s arcs n items l.0 new l.2 i a.node a.made in
    record { node = b.node; made = b.made; parent = b.parent ∙ a.parent; arc = b.arc ∙ a.arc; mark = b.mark ∙ a.mark }

-- node 1's box holds every list of cables
pub first-box : (s : Site) (arcs : List Arc) (n : ℕ) (items : List Item) (kept : ProofState) → IsAccepted s arcs n items kept → (cables : List Cable) → IsInBox arcs (marks_of arcs kept.nodes 1) cables
first-box s arcs n items kept accepted cables =
    box-still arcs (root ∷ []) kept.nodes 1 cables before (still-leads s arcs n items empty_state kept accepted) (omega arith)
    (marks-box arcs (root ∷ []) 1 cables (λ i a e. by_case (has_arc cables a) (0 == i)))
  where
    before : AreParentsBefore (root ∷ [])
    before zero x e = let q : 0 ≡ x.parent = ap (λ (n : Node). n.parent) (let r : root ≡ x = cc in r) in omega arith
    before (suc i) x e = absurd (cc)

    by_case : (b t : Bool) → IsKept (cond t Free Free) b
    by_case b true = tt
    by_case b false = tt

-- the marks of a node stay where its list of nodes goes on
pub marks-still : (arcs : List Arc) (old new : List Node) (v : ℕ) → AreParentsBefore old → AreStillMade old new → v ≤ length old → marks_of arcs new v ≡ marks_of arcs old v
marks-still arcs old new v up still h =
    ap (λ (f : ℕ → Mark). map (λ (x : ℕ × Arc). f x.0) (enumerate_from 0 arcs)) (λ i a. sym (mark_in-still old new up still a v v v (omega arith) (omega arith) h) i)

-- later items change no mark of a made node
pub marks-later : (s : Site) (arcs : List Arc) (n : ℕ) (items more : List Item) (old new : ProofState) → IsValid s → AreArcs s arcs → IsAccepted s arcs n items old → Leads s arcs n old more new
    → (v : ℕ) → v ≤ length old.nodes → marks_of arcs new.nodes v ≡ marks_of arcs old.nodes v
marks-later s arcs n items more old new valid are accepted l v h =
    marks-still arcs old.nodes new.nodes v (sound-accepted s arcs n items old valid are accepted).nodes.parents (still-leads s arcs n more old new l) h

-- marks that differ at no listed arc
marks-other : (f : ℕ → Mark) (mark : Mark) (k n : ℕ) (arcs : List Arc) → k < n
    → map (λ (x : ℕ × Arc). cond (k == x.0) mark (f x.0)) (enumerate_from n arcs) ≡ map (λ (x : ℕ × Arc). f x.0) (enumerate_from n arcs)
marks-other f mark k n [] l = refl
marks-other f mark k n (a ∷ arcs) l =
    let e : (k == n) ≡ false = ne_eqb k n (λ q. omega arith) in
    rw e (ap (λ ms. f n ∷ ms) (marks-other f mark k (n + 1) arcs (omega arith)))

-- marks that differ at one arc
marks-set : (f : ℕ → Mark) (mark : Mark) (k n : ℕ) (arcs : List Arc)
    → map (λ (x : ℕ × Arc). cond (n + k == x.0) mark (f x.0)) (enumerate_from n arcs) ≡ slice_set (map (λ (x : ℕ × Arc). f x.0) (enumerate_from n arcs)) k mark
marks-set f mark k n [] = refl
marks-set f mark zero n (a ∷ arcs) =
    let z : n + 0 ≡ n = omega arith in
    let e : (n == n) ≡ true = eq-eqb n n refl in
    ap (λ (m : ℕ). map (λ (x : ℕ × Arc). cond (m == x.0) mark (f x.0)) (enumerate_from n (a ∷ arcs))) z
    ∙ ap (λ (b : Bool). cond b mark (f n) ∷ map (λ (x : ℕ × Arc). cond (n == x.0) mark (f x.0)) (enumerate_from (n + 1) arcs)) e
    ∙ ap (λ ms. mark ∷ ms) (marks-other f mark n (n + 1) arcs (omega arith))
marks-set f mark (suc k) n (a ∷ arcs) =
    let e : (n + suc k == n) ≡ false = ne_eqb (n + suc k) n (λ q. omega arith) in
    ap (λ (b : Bool). cond b mark (f n) ∷ map (λ (x : ℕ × Arc). cond (n + suc k == x.0) mark (f x.0)) (enumerate_from (n + 1) arcs)) e
    ∙ ap (λ (m : ℕ). f n ∷ map (λ (x : ℕ × Arc). cond (m == x.0) mark (f x.0)) (enumerate_from (n + 1) arcs)) (let q : n + suc k ≡ n + 1 + k = omega arith in q)
    ∙ ap (λ ms. f n ∷ ms) (marks-set f mark k (n + 1) arcs)

-- the marks of a child are its parent's, but at its arc
pub marks-child : (arcs : List Arc) (old new : List Node) (j v arc : ℕ) (mark : Mark) → AreParentsBefore old → AreStillMade old new → IsChild old new j v arc mark
    → marks_of arcs new (suc j) ≡ slice_set (marks_of arcs old v) arc mark
marks-child arcs old new j v arc mark up still c =
    ap (λ (f : ℕ → Mark). map (λ (x : ℕ × Arc). f x.0) (enumerate_from 0 arcs)) (λ i a. mark_in-child_is old new up still j v arc mark c a i)
    ∙ ap (λ (k : ℕ). map (λ (x : ℕ × Arc). cond (k == x.0) mark (mark_in v old x.0 v)) (enumerate_from 0 arcs)) (let q : arc ≡ 0 + arc = omega arith in q)
    ∙ marks-set (λ a. mark_in v old a v) mark arc 0 arcs

-- A work that splits a node, with the children that it makes.
pub record IsDivided (s : Site) (arcs : List Arc) (old new : ProofState) (v a : ℕ) : Type 0 where
  pub parents : AreParentsBefore old.nodes
  pub still : AreStillMade old.nodes new.nodes
  pub used : IsChild old.nodes new.nodes (length old.nodes) v a Used
  pub unused : IsChild old.nodes new.nodes (length old.nodes + 1) v a Unused

-- a split work divides
pub divided : (s : Site) (arcs : List Arc) (n : ℕ) (items : List Item) (old new : ProofState) (v : ℕ) (weights : List (ℕ × ℤ)) (a : ℕ) → IsValid s → AreArcs s arcs → IsAccepted s arcs n items old
    → IsWorked s arcs n old v weights (Split a) new → IsDivided s arcs old new v a
divided s arcs n items old new zero weights a valid are accepted w = absurd (let e = w.made in cc)
divided s arcs n items old new (suc i) weights a valid are accepted w =
    let acted = w.acted in
    let after : new.nodes ≡ split_nodes old.nodes i w.node acted.0 a = acted.3 ∙ ap (λ xs. xs ++ children (suc i) acted.0 a) (set_at_node i old.nodes (worked w.node acted.0 WasSplit)) in
    let many : length (slice_set old.nodes i (worked w.node acted.0 WasSplit)) ≡ length old.nodes = length-set old.nodes i (worked w.node acted.0 WasSplit) in
    record {
      parents = (sound-accepted s arcs n items old valid are accepted).nodes.parents;
      still = still-accepts s arcs n old new (WorkItem (suc i) weights (Split a)) w;
      used = subst (λ xs. IsChild old.nodes xs (length old.nodes) (suc i) a Used) (sym after)
          (subst (λ k. IsChild old.nodes (split_nodes old.nodes i w.node acted.0 a) k (suc i) a Used) (omega (arith, many))
          (split-child arcs old.nodes i a w.node acted.0 w.made acted.2 0 Used refl));
      unused = subst (λ xs. IsChild old.nodes xs (length old.nodes + 1) (suc i) a Unused) (sym after)
          (subst (λ k. IsChild old.nodes (split_nodes old.nodes i w.node acted.0 a) k (suc i) a Unused) (omega (arith, many))
          (split-child arcs old.nodes i a w.node acted.0 w.made acted.2 1 Unused refl));
    }

-- the arc of a child is one of the list
split-arc : (s : Site) (arcs : List Arc) (n : ℕ) (old new : ProofState) (v : ℕ) (weights : List (ℕ × ℤ)) (a : ℕ) → IsWorked s arcs n old v weights (Split a) new → (arc : Arc) × (slice_get arcs a ≡ Some arc)
split-arc s arcs n old new v weights a w = some_at arcs a (marks_of-at arcs old.nodes v a Free w.acted.2).0

-- a layout in the box of a node that is split is in the box of exactly one of the children
pub split-boxes : (s : Site) (arcs : List Arc) (old new : ProofState) (v a : ℕ) → IsDivided s arcs old new v a → (arc : Arc) → slice_get arcs a ≡ Some arc
    → (cables : List Cable) → IsInBox arcs (marks_of arcs old.nodes v) cables
    → (IsInBox arcs (marks_of arcs new.nodes (suc (length old.nodes))) cables × ¬ IsInBox arcs (marks_of arcs new.nodes (suc (length old.nodes + 1))) cables)
    ⊎ ((¬ IsInBox arcs (marks_of arcs new.nodes (suc (length old.nodes))) cables) × IsInBox arcs (marks_of arcs new.nodes (suc (length old.nodes + 1))) cables)
split-boxes s arcs old new v a d arc e cables box = by_use (has_arc cables arc) refl
  where
    at_arc : (x : Arc) → slice_get arcs a ≡ Some x → arc ≡ x
    at_arc x h = let f : Some arc ≡ Some x = sym e ∙ h in cc

    by_use : (b : Bool) → has_arc cables arc ≡ b
        → (IsInBox arcs (marks_of arcs new.nodes (suc (length old.nodes))) cables × ¬ IsInBox arcs (marks_of arcs new.nodes (suc (length old.nodes + 1))) cables)
        ⊎ ((¬ IsInBox arcs (marks_of arcs new.nodes (suc (length old.nodes))) cables) × IsInBox arcs (marks_of arcs new.nodes (suc (length old.nodes + 1))) cables)
    by_use true t = inl (
      box-of_child arcs old.nodes new.nodes (length old.nodes) v a Used cables d.parents d.still d.used (λ x h. sym (ap (has_arc cables) (at_arc x h)) ∙ t) box,
      λ b. box-keeps arcs old.nodes new.nodes (length old.nodes + 1) v a Unused cables d.parents d.still d.unused b arc e t,
    )
    by_use false t = inr (
      λ b. let q : true ≡ false = sym (box-keeps arcs old.nodes new.nodes (length old.nodes) v a Used cables d.parents d.still d.used b arc e) ∙ t in cc,
      box-of_child arcs old.nodes new.nodes (length old.nodes + 1) v a Unused cables d.parents d.still d.unused
          (λ x h u. let q : true ≡ false = sym u ∙ sym (ap (has_arc cables) (at_arc x h)) ∙ t in cc) box,
    )

-- the first child of a split work has the node's marks, with the arc used
pub used-child : (s : Site) (arcs : List Arc) (n : ℕ) (items : List Item) (old new : ProofState) (v a : ℕ) (weights : List (ℕ × ℤ)) → IsValid s → AreArcs s arcs → IsAccepted s arcs n items old
    → IsWorked s arcs n old v weights (Split a) new → marks_of arcs new.nodes (length old.nodes + 1) ≡ slice_set (marks_of arcs old.nodes v) a Used
used-child s arcs n items old new v a weights valid are accepted w =
    let d = divided s arcs n items old new v weights a valid are accepted w in
    ap (marks_of arcs new.nodes) (let q : length old.nodes + 1 ≡ suc (length old.nodes) = omega arith in q)
    ∙ marks-child arcs old.nodes new.nodes (length old.nodes) v a Used d.parents d.still d.used

-- the second has them with the arc unused
pub unused-child : (s : Site) (arcs : List Arc) (n : ℕ) (items : List Item) (old new : ProofState) (v a : ℕ) (weights : List (ℕ × ℤ)) → IsValid s → AreArcs s arcs → IsAccepted s arcs n items old
    → IsWorked s arcs n old v weights (Split a) new → marks_of arcs new.nodes (length old.nodes + 2) ≡ slice_set (marks_of arcs old.nodes v) a Unused
unused-child s arcs n items old new v a weights valid are accepted w =
    let d = divided s arcs n items old new v weights a valid are accepted w in
    ap (marks_of arcs new.nodes) (let q : length old.nodes + 2 ≡ suc (length old.nodes + 1) = omega arith in q)
    ∙ marks-child arcs old.nodes new.nodes (length old.nodes + 1) v a Unused d.parents d.still d.unused

-- and a layout in the node's box is in the box of exactly one of them
pub one-child : (s : Site) (arcs : List Arc) (n : ℕ) (items : List Item) (old new : ProofState) (v a : ℕ) (weights : List (ℕ × ℤ)) (cables : List Cable) → IsValid s → AreArcs s arcs
    → IsAccepted s arcs n items old → IsWorked s arcs n old v weights (Split a) new → IsInBox arcs (marks_of arcs old.nodes v) cables
    → (IsInBox arcs (marks_of arcs new.nodes (length old.nodes + 1)) cables × (¬ IsInBox arcs (marks_of arcs new.nodes (length old.nodes + 2)) cables))
    ⊎ ((¬ IsInBox arcs (marks_of arcs new.nodes (length old.nodes + 1)) cables) × IsInBox arcs (marks_of arcs new.nodes (length old.nodes + 2)) cables)
one-child s arcs n items old new v a weights cables valid are accepted w box =
    let d = divided s arcs n items old new v weights a valid are accepted w in
    let arc = split-arc s arcs n old new v weights a w in
    let first : suc (length old.nodes) ≡ length old.nodes + 1 = omega arith in
    let second : suc (length old.nodes + 1) ≡ length old.nodes + 2 = omega arith in
    let lies = λ (k : ℕ). IsInBox arcs (marks_of arcs new.nodes k) cables in
    subst (λ (k : ℕ). (lies k × (¬ lies (length old.nodes + 2))) ⊎ ((¬ lies k) × lies (length old.nodes + 2))) first
    (subst (λ (k : ℕ). (lies (suc (length old.nodes)) × (¬ lies k)) ⊎ ((¬ lies (suc (length old.nodes))) × lies k)) second
    (split-boxes s arcs old new v a d arc.0 arc.1 cables box))
