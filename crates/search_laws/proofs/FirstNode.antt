-- Node 1 is worked first, and no bound below it is lower.
use Rattle.std.proofs.Common.{◌≡◌, ◌≢◌, ℕ, zero, suc, ◌≤◌, ◌⊎◌, inl, inr, List, [], ◌∷◌, ◌++◌, length, Some, refl, sym, ◌∙◌, ap, subst, arith}
use Rattle.std.specs.Prelude.{slice_set, ℤ}
use Rattle.cable_definitions.specs.declared.cable.Arc.{Arc}
use Rattle.cable_definitions.specs.declared.row.Mark.TheVariants.{Used, Unused}
use Rattle.cable_definitions.specs.declared.row.Act.{Act}
use Rattle.cable_definitions.specs.declared.row.Act.TheVariants.{Split, Stop, Dead, Full}
use Rattle.cable_definitions.specs.Site.{Site, IsValid}
use Rattle.cable_definitions.specs.Arcs.{AreArcs}
use Rattle.cable_definitions.specs.Layout.{cost}
use Rattle.cable_definitions.specs.Tree.{Status, Unworked, WasSplit, Stopped, WasDead, WasFull, Node, Item, RowItem, WorkItem, ProofState, root, empty_state, node_of, worked, child, IsActed, IsWorked, Accepts, Leads, IsAccepted}
use Rattle.proof_laws.proofs.Rising.{bounds-stay}
use Rattle.search_laws.proofs.Acting.{other-acted}
use Rattle.search_laws.proofs.Leading.{leads-then}

-- each made node's bound is at least this
abbrev pub AreAbove : ℕ → List Node → Type 0
AreAbove m nodes = (v : ℕ) (node : Node) → node_of nodes v ≡ Some node → m ≤ node.bound

-- node 1 is worked: it alone was made where it wasn't split, and no made node's bound is below its own
pub record IsBegun (kept : ProofState) : Type 0 where
  pub first : Node
  pub made : node_of kept.nodes 1 ≡ Some first
  pub is_worked : first.status ≢ Unworked
  pub alone : first.status ≢ WasSplit → length kept.nodes ≡ 1
  pub above : AreAbove first.bound kept.nodes

-- nothing is worked, or node 1 is
abbrev pub IsBeginning : ProofState → Type 0
IsBeginning kept = ((kept.nodes ≡ root ∷ []) × (kept.works ≡ 0)) ⊎ IsBegun kept

-- ---- the first work
-- the root is worked, and nothing is made
begun-one : (kept : ProofState) (bound : ℕ) (status : Status) → status ≢ Unworked → kept.nodes ≡ worked root bound status ∷ [] → IsBegun kept
begun-one kept bound status done e = record {
  first = worked root bound status;
  made = ap (λ (ns : List Node). node_of ns 1) e;
  is_worked = done;
  alone = λ other. ap length e;
  above = subst (AreAbove bound) (sym e) one;
}
  where
    one : AreAbove bound (worked root bound status ∷ [])
    one zero node f = absurd (cc)
    one (suc zero) node f = (let b : bound ≡ node.bound = ap (λ (x : Node). x.bound) (let same : worked root bound status ≡ node = cc in same) in omega (arith, b))
    one (suc (suc k)) node f = absurd (cc)

-- or its two children are
begun-split : (kept : ProofState) (bound a : ℕ) → kept.nodes ≡ worked root bound WasSplit ∷ child 1 bound a Used ∷ child 1 bound a Unused ∷ [] → IsBegun kept
begun-split kept bound a e = record {
  first = worked root bound WasSplit;
  made = ap (λ (ns : List Node). node_of ns 1) e;
  is_worked = λ f. cc;
  alone = λ other. absurd (other refl);
  above = subst (AreAbove bound) (sym e) three;
}
  where
    three : AreAbove bound (worked root bound WasSplit ∷ child 1 bound a Used ∷ child 1 bound a Unused ∷ [])
    three zero node f = absurd (cc)
    three (suc zero) node f = (let b : bound ≡ node.bound = ap (λ (x : Node). x.bound) (let same : worked root bound WasSplit ≡ node = cc in same) in omega (arith, b))
    three (suc (suc zero)) node f = (let b : bound ≡ node.bound = ap (λ (x : Node). x.bound) (let same : child 1 bound a Used ≡ node = cc in same) in omega (arith, b))
    three (suc (suc (suc zero))) node f = (let b : bound ≡ node.bound = ap (λ (x : Node). x.bound) (let same : child 1 bound a Unused ≡ node = cc in same) in omega (arith, b))
    three (suc (suc (suc (suc k)))) node f = absurd (cc)

-- an act on the root alone
begun-acted : (s : Site) (arcs : List Arc) (old new : ProofState) (node : Node) (value : ℤ) (act : Act) → old.nodes ≡ root ∷ [] → root ≡ node → IsActed s arcs old 1 node value act new.nodes → IsBegun new
begun-acted s arcs old new node value (Split a) e same acted =
    begun-split new acted.0 a (acted.3 ∙ ap (λ (ns : List Node). slice_set ns 0 (worked node acted.0 WasSplit) ++ child 1 acted.0 a Used ∷ child 1 acted.0 a Unused ∷ []) e
    ∙ ap (λ (x : Node). worked x acted.0 WasSplit ∷ child 1 acted.0 a Used ∷ child 1 acted.0 a Unused ∷ []) (sym same))
begun-acted s arcs old new node value Stop e same acted =
    begun-one new acted.0 Stopped (λ f. cc) (acted.2 ∙ ap (λ (ns : List Node). slice_set ns 0 (worked node acted.0 Stopped)) e ∙ ap (λ (x : Node). worked x acted.0 Stopped ∷ []) (sym same))
begun-acted s arcs old new node value (Dead why) e same acted =
    begun-one new acted.0 WasDead (λ f. cc) (acted.3 ∙ ap (λ (ns : List Node). slice_set ns 0 (worked node acted.0 WasDead)) e ∙ ap (λ (x : Node). worked x acted.0 WasDead ∷ []) (sym same))
begun-acted s arcs old new node value Full e same acted =
    begun-one new (cost s acted.0) WasFull (λ f. cc)
    (acted.2 ∙ ap (λ (ns : List Node). slice_set ns 0 (worked node (cost s acted.0) WasFull)) e ∙ ap (λ (x : Node). worked x (cost s acted.0) WasFull ∷ []) (sym same))

-- the first work is on the root
begun-first : (s : Site) (arcs : List Arc) (n : ℕ) (old new : ProofState) (v : ℕ) (weights : List (ℕ × ℤ)) (act : Act) → old.nodes ≡ root ∷ [] → IsWorked s arcs n old v weights act new → IsBegun new
begun-first s arcs n old new zero weights act e w = absurd (let f = w.made in cc)
begun-first s arcs n old new (suc zero) weights act e w =
    let f : Some root ≡ Some w.node = sym (ap (λ (ns : List Node). node_of ns 1) e) ∙ w.made in
    begun-acted s arcs old new w.node w.value act e (let same : root ≡ w.node = cc in same) w.acted
begun-first s arcs n old new (suc (suc k)) weights act e w = absurd (let f = sym (ap (λ (ns : List Node). node_of ns (suc (suc k))) e) ∙ w.made in cc)

-- ---- later works
-- where node 1 alone was made and is worked, no node is left to be worked
none-left : (nodes : List Node) (v : ℕ) (first node : Node) → length nodes ≡ 1 → node_of nodes 1 ≡ Some first → first.status ≢ Unworked → node_of nodes v ≡ Some node → node.status ≡ Unworked → ⊥
none-left [] v first node one e done f unworked = absurd (omega (arith, one))
none-left (x ∷ []) zero first node one e done f unworked = cc
none-left (x ∷ []) (suc zero) first node one e done f unworked = (let g : Some first ≡ Some node = sym e ∙ f in let same : first ≡ node = cc in done (ap (λ (z : Node). z.status) same ∙ unworked))
none-left (x ∷ []) (suc (suc k)) first node one e done f unworked = cc
none-left (x ∷ y ∷ ys) v first node one e done f unworked = absurd (omega (arith, one))

-- an item after node 1 is worked
begun-later : (s : Site) (arcs : List Arc) (n : ℕ) (items : List Item) (old new : ProofState) (item : Item) → IsValid s → AreArcs s arcs → IsAccepted s arcs n items old → Accepts s arcs n old item new
    → IsBegun old → IsBegun new
begun-later s arcs n items old new (RowItem row) valid are accepted listed begun = record {
  first = begun.first;
  made = ap (λ (ns : List Node). node_of ns 1) listed.nodes ∙ begun.made;
  is_worked = begun.is_worked;
  alone = λ other. ap length listed.nodes ∙ begun.alone other;
  above = subst (AreAbove begun.first.bound) (sym listed.nodes) begun.above;
}
begun-later s arcs n items old new (WorkItem v weights act) valid are accepted w begun = record {
  first = begun.first;
  made = other-acted s arcs old v w.node w.value act new.nodes w.made w.acted 1 begun.first not_first begun.made;
  is_worked = begun.is_worked;
  alone = λ other. absurd (none-left old.nodes v begun.first w.node (begun.alone other) begun.made begun.is_worked w.made w.unworked);
  above = bounds-stay s arcs n begun.first.bound items (WorkItem v weights act ∷ []) old new valid are accepted (new, w, refl) begun.above;
}
  where
    not_first : 1 ≢ v
    not_first e =
        let f : Some begun.first ≡ Some w.node = sym begun.made ∙ ap (node_of old.nodes) e ∙ w.made in
        let same : begun.first ≡ w.node = cc in
        begun.is_worked (ap (λ (z : Node). z.status) same ∙ w.unworked)

-- ---- all items
-- one item more
beginning-accepts : (s : Site) (arcs : List Arc) (n : ℕ) (items : List Item) (old new : ProofState) (item : Item) → IsValid s → AreArcs s arcs → IsAccepted s arcs n items old → Accepts s arcs n old item new
    → IsBeginning old → IsBeginning new
beginning-accepts s arcs n items old new (RowItem row) valid are accepted listed (inl none) = inl (listed.nodes ∙ none.0, listed.works ∙ none.1)
beginning-accepts s arcs n items old new (WorkItem v weights act) valid are accepted w (inl none) = inr (begun-first s arcs n old new v weights act none.0 w)
beginning-accepts s arcs n items old new item valid are accepted a (inr begun) = inr (begun-later s arcs n items old new item valid are accepted a begun)

-- and more after items that were accepted
beginning-leads : (s : Site) (arcs : List Arc) (n : ℕ) (items more : List Item) (old new : ProofState) → IsValid s → AreArcs s arcs → IsAccepted s arcs n items old → Leads s arcs n old more new
    → IsBeginning old → IsBeginning new
beginning-leads s arcs n items [] old new valid are accepted l b = subst IsBeginning (sym l) b
beginning-leads s arcs n items (item ∷ more) old new valid are accepted l b =
    beginning-leads s arcs n (items ++ item ∷ []) more l.0 new valid are (leads-then s arcs n empty_state old l.0 items (item ∷ []) accepted (l.0, l.1, refl)) l.2
    (beginning-accepts s arcs n items old l.0 item valid are accepted l.1 b)

-- what accepted items leave
pub beginning : (s : Site) (arcs : List Arc) (n : ℕ) (items : List Item) (kept : ProofState) → IsValid s → AreArcs s arcs → IsAccepted s arcs n items kept → IsBeginning kept
beginning s arcs n items kept valid are accepted = beginning-leads s arcs n [] items empty_state kept valid are refl accepted (inl (refl, refl))

-- so node 1 is worked where some work is done
pub begun-worked : (s : Site) (arcs : List Arc) (n : ℕ) (items : List Item) (kept : ProofState) → IsValid s → AreArcs s arcs → IsAccepted s arcs n items kept → 1 ≤ kept.works → IsBegun kept
begun-worked s arcs n items kept valid are accepted some = elim (beginning s arcs n items kept valid are accepted) [ inl none ↦ absurd (let no_work = none.1 in omega (arith, no_work, some)) | inr begun ↦ begun ]

-- or where node 1 isn't unworked
pub begun-first_node : (s : Site) (arcs : List Arc) (n : ℕ) (items : List Item) (kept : ProofState) (first : Node) → IsValid s → AreArcs s arcs → IsAccepted s arcs n items kept
    → node_of kept.nodes 1 ≡ Some first → first.status ≢ Unworked → IsBegun kept
begun-first_node s arcs n items kept first valid are accepted e done = elim (beginning s arcs n items kept valid are accepted) [
  | inl none ↦
      let f : Some root ≡ Some first = sym (ap (λ (ns : List Node). node_of ns 1) none.0) ∙ e in
      let same : root ≡ first = cc in
      absurd (done (ap (λ (z : Node). z.status) (sym same)))
  | inr begun ↦ begun
]

-- no node can be worked where node 1 alone was made and some work is done
pub none-unworked : (s : Site) (arcs : List Arc) (n : ℕ) (items : List Item) (kept : ProofState) → IsValid s → AreArcs s arcs → IsAccepted s arcs n items kept → 1 ≤ kept.works → length kept.nodes ≡ 1
    → (v : ℕ) (node : Node) → node_of kept.nodes v ≡ Some node → node.status ≡ Unworked → ⊥
none-unworked s arcs n items kept valid are accepted some one v node e unworked =
    let begun = begun-worked s arcs n items kept valid are accepted some in
    none-left kept.nodes v begun.first node one begun.made begun.is_worked e unworked

-- the number of a node that was made alone
number_one : (nodes : List Node) (v : ℕ) (node : Node) → length nodes ≡ 1 → node_of nodes v ≡ Some node → v ≡ 1
number_one [] v node one e = absurd (omega (arith, one))
number_one (x ∷ []) zero node one e = absurd (cc)
number_one (x ∷ []) (suc zero) node one e = refl
number_one (x ∷ []) (suc (suc k)) node one e = absurd (cc)
number_one (x ∷ y ∷ ys) v node one e = absurd (omega (arith, one))

-- where node 1 is worked and its bound is at least m, or it is dead, each made node other than a dead node 1 has a bound of at least m
pub above-first : (s : Site) (arcs : List Arc) (n m : ℕ) (items : List Item) (kept : ProofState) (first : Node) → IsValid s → AreArcs s arcs → IsAccepted s arcs n items kept
    → node_of kept.nodes 1 ≡ Some first → first.status ≢ Unworked → (first.status ≡ WasDead) ⊎ (m ≤ first.bound)
    → (v : ℕ) (node : Node) → node_of kept.nodes v ≡ Some node → (v ≡ 1 → node.status ≢ WasDead) → m ≤ node.bound
above-first s arcs n m items kept first valid are accepted e done reached v node f other = elim reached [
  | inl dead ↦ absurd (only dead)
  | inr low ↦ (let up = begun.above v node f in let b = ap (λ (z : Node). z.bound) same in omega (arith, low, up, b))
]
  where
    begun : IsBegun kept
    begun = begun-first_node s arcs n items kept first valid are accepted e done

    same : first ≡ begun.first
    same = (let g : Some first ≡ Some begun.first = sym e ∙ begun.made in cc)

    only : first.status ≡ WasDead → ⊥
    only dead =
        let one = begun.alone (λ split. (let g : ◌≡◌ {A = Status} WasDead WasSplit = sym dead ∙ ap (λ (z : Node). z.status) same ∙ split in cc)) in
        let number = number_one kept.nodes v node one f in
        let g : Some first ≡ Some node = sym e ∙ sym (ap (node_of kept.nodes) number) ∙ f in
        let is : first ≡ node = cc in
        other number (sym (ap (λ (z : Node). z.status) is) ∙ dead)
