-- What accepted items keep: each made node's bound holds in its box, and each legal layout lies in the box of an open leaf.
use Rattle.std.proofs.Common.{◌≡◌, ◌≢◌, ℕ, zero, suc, ◌+◌, ◌-◌, ◌<◌, ◌≤◌, ◌⊎◌, inl, inr, Bool, true, false, cond, ℤ, List, [], ◌∷◌, ◌++◌, length, slice_get, Some, refl, ap, sym, ◌∙◌, subst, arith}
use Rattle.std.specs.Prelude.{◌==◌, slice_set, IsTrue, All}
use Rattle.std.proofs.lemmas.Option.{slice_get_within}
use Rattle.std.proofs.lemmas.List.Elements.{All-push}
use Rattle.std.proofs.lemmas.Bool.Decides.{eqb_tells}
use Rattle.cable_definitions.specs.declared.cable.Cable.{Cable}
use Rattle.cable_definitions.specs.declared.cable.Arc.{Arc}
use Rattle.cable_definitions.specs.declared.row.Mark.{Mark}
use Rattle.cable_definitions.specs.declared.row.Mark.TheVariants.{Free, Used, Unused}
use Rattle.cable_definitions.specs.declared.row.Act.{Act}
use Rattle.cable_definitions.specs.declared.row.Act.TheVariants.{Split, Stop, Dead, Full}
use Rattle.cable_definitions.specs.declared.claim.Claim.{Claim}
use Rattle.cable_definitions.specs.declared.claim.Claim.TheVariants.{Optimal, Gap, Partial, Infeasible}
use Rattle.cable_definitions.specs.Site.{Site, IsValid}
use Rattle.cable_definitions.specs.Arcs.{AreArcs}
use Rattle.cable_definitions.specs.Layout.{IsLegal, cost, Least, HasNone}
use Rattle.cable_definitions.specs.Row.{Row, has_arc, IsWellFormed}
use Rattle.cable_definitions.specs.Choice.{IsKept, IsInBox, AreLawful, IsValue}
use Rattle.cable_definitions.specs.Tree.{Status, WasSplit, Stopped, WasDead, WasFull, Node, Item, RowItem, WorkItem, ProofState, root, empty_state, node_of, marks_of, IsBound, worked, child, IsActed, IsWorked, IsListed, Accepts, Leads, IsAccepted, is_open_leaf, IsLeastBound, AllDead, Agrees, Says}
use Rattle.cable_definitions.specs.Document.{IsAcceptedDocument}
use Rattle.layout_laws.proofs.Typing.{all-at}
use Rattle.proof_laws.proofs.Lists.{some_at}
use Rattle.proof_laws.proofs.DeadNodes.{none-dead}
use Rattle.proof_laws.proofs.FullNodes.{full-cost}
use Rattle.proof_laws.proofs.Weights.{value-le}
use Rattle.proof_laws.proofs.Boxes.{set_here, set_other, set_either, append_left, append_right, append_either, marks-box, marks_of-at, AreParentsBefore, AreStillMade, box-still, box-was, IsChild, box-of_parent, box-of_child}

-- in the box of node v each legal layout costs at least the bound
abbrev pub IsBoundIn : Site → List Arc → List Node → ℕ → ℕ → Type 0
IsBoundIn s arcs nodes v bound = (cables : List Cable) → IsLegal s cables → IsInBox arcs (marks_of arcs nodes v) cables → bound ≤ cost s cables

-- an open leaf whose box holds the layout
pub record IsCovered (arcs : List Arc) (nodes : List Node) (cables : List Cable) : Type 0 where
  pub place : ℕ
  pub node : Node
  pub made : slice_get nodes place ≡ Some node
  pub open_leaf : IsTrue (is_open_leaf node.status)
  pub in_box : IsInBox arcs (marks_of arcs nodes (suc place)) cables

-- what accepted items keep of the made nodes
pub record AreSound (s : Site) (arcs : List Arc) (nodes : List Node) : Type 0 where
  pub parents : AreParentsBefore nodes
  pub bounds : (i : ℕ) (x : Node) → slice_get nodes i ≡ Some x → IsBoundIn s arcs nodes (suc i) x.bound
  pub cover : (cables : List Cable) → IsLegal s cables → IsCovered arcs nodes cables

-- what accepted items keep
pub record IsSound (s : Site) (arcs : List Arc) (kept : ProofState) : Type 0 where
  pub well_formed : All (IsWellFormed s arcs) kept.rows
  pub nodes : AreSound s arcs kept.nodes

-- it holds before the first item
pub sound-nothing : (s : Site) (arcs : List Arc) → IsSound s arcs empty_state
sound-nothing s arcs = record {
  well_formed = λ k d l. absurd (omega arith);
  nodes = record {
    parents = at_root;
    bounds = no_bound;
    cover = λ cables g. record { place = 0; node = root; made = refl; open_leaf = refl; in_box = marks-box arcs (root ∷ []) 1 cables (λ i a e. by_case (has_arc cables a) (0 == i)) };
  };
}
  where
    at_root : (i : ℕ) (x : Node) → slice_get (root ∷ []) i ≡ Some x → x.parent ≤ i
    at_root zero x e = let q : 0 ≡ x.parent = ap (λ (n : Node). n.parent) (let r : root ≡ x = cc in r) in omega arith
    at_root (suc i) x e = absurd (cc)

    no_bound : (i : ℕ) (x : Node) → slice_get (root ∷ []) i ≡ Some x → IsBoundIn s arcs (root ∷ []) (suc i) x.bound
    no_bound zero x e cables g b = let q : 0 ≡ x.bound = ap (λ (n : Node). n.bound) (let r : root ≡ x = cc in r) in omega arith
    no_bound (suc i) x e cables g b = absurd (cc)

    by_case : (b t : Bool) → IsKept (cond t Free Free) b
    by_case b true = tt
    by_case b false = tt

-- a row that is listed is well formed, and changes no node
sound-listed : (s : Site) (arcs : List Arc) (old new : ProofState) (row : Row) → IsSound s arcs old → IsListed s arcs old row new → IsSound s arcs new
sound-listed s arcs old new row sound l = record {
  well_formed = subst (All (IsWellFormed s arcs)) (sym l.rows) (All-push (IsWellFormed s arcs) old.rows row sound.well_formed l.well_formed);
  nodes = subst (AreSound s arcs) (sym l.nodes) sound.nodes;
}

-- A node is worked: it stands where it stood, with another bound and status, and the others stay.
pub record IsReplaced (old new : List Node) (i : ℕ) (node : Node) (bound : ℕ) (status : Status) : Type 0 where
  pub was : slice_get old i ≡ Some node
  pub is : slice_get new i ≡ Some (worked node bound status)
  pub others : (j : ℕ) (x : Node) → j ≢ i → slice_get old j ≡ Some x → slice_get new j ≡ Some x

-- the two nodes that a split makes
abbrev pub children : ℕ → ℕ → ℕ → List Node
children v bound a = child v bound a Used ∷ child v bound a Unused ∷ []

-- the nodes after a split of node i + 1
abbrev pub split_nodes : List Node → ℕ → Node → ℕ → ℕ → List Node
split_nodes old i node bound a = slice_set old i (worked node bound WasSplit) ++ children (suc i) bound a

-- a node is replaced in the list of nodes, ..
pub replaced-set : (old : List Node) (i : ℕ) (node : Node) (bound : ℕ) (status : Status) → slice_get old i ≡ Some node
    → IsReplaced old (slice_set old i (worked node bound status)) i node bound status
replaced-set old i node bound status e = record {
  was = e;
  is = set_here old i node (worked node bound status) e;
  others = λ j x n h. set_other old i j (worked node bound status) n ∙ h;
}

-- .. also where others are appended
pub replaced-split : (old : List Node) (i : ℕ) (node : Node) (bound : ℕ) (status : Status) (more : List Node) → slice_get old i ≡ Some node
    → IsReplaced old (slice_set old i (worked node bound status) ++ more) i node bound status
replaced-split old i node bound status more e =
    let r = replaced-set old i node bound status e in
    let mid = slice_set old i (worked node bound status) in
    record {
      was = e;
      is = append_left mid more i (worked node bound status) r.is;
      others = λ j x n h. append_left mid more j x (r.others j x n h);
    }

-- the old nodes are still made
pub replaced-still : (old new : List Node) (i : ℕ) (node : Node) (bound : ℕ) (status : Status) → IsReplaced old new i node bound status → AreStillMade old new
replaced-still old new i node bound status r j x e = elim (eqb_tells j i) [
  | inl t ↦
      let f : Some node ≡ Some x = sym r.was ∙ sym (ap (slice_get old) t.1) ∙ e in
      let same : node ≡ x = cc in
      record {
        node = worked node bound status;
        made = ap (slice_get new) t.1 ∙ r.is;
        parent = ap (λ (n : Node). n.parent) same;
        arc = ap (λ (n : Node). n.arc) same;
        mark = ap (λ (n : Node). n.mark) same;
      }
  | inr t ↦ record { node = x; made = r.others j x t.1 e; parent = refl; arc = refl; mark = refl }
]

-- the replaced node, or another old one, has a parent before it and a bound that holds
replaced-node : (s : Site) (arcs : List Arc) (old new : List Node) (i : ℕ) (node : Node) (bound : ℕ) (status : Status) → AreSound s arcs old → IsReplaced old new i node bound status
    → IsBoundIn s arcs old (suc i) bound → (j : ℕ) (x : Node) → ((j ≡ i) × (worked node bound status ≡ x)) ⊎ ((j ≢ i) × (slice_get old j ≡ Some x))
    → (x.parent ≤ j) × IsBoundIn s arcs new (suc j) x.bound
replaced-node s arcs old new i node bound status sound r holds j x h = elim h [
  | inl here ↦
      let within = slice_get_within old i node r.was in
      let before : node.parent ≤ i = sound.parents i node r.was in
      let parent : node.parent ≡ x.parent = ap (λ (n : Node). n.parent) here.1 in
      let place : j ≡ i = here.0 in
      let is : bound ≡ x.bound = ap (λ (n : Node). n.bound) here.1 in (
        omega arith,
        λ cables g b.
            let c = holds cables g (box-was arcs old new (suc i) cables sound.parents still (omega arith) (subst (λ (k : ℕ). IsInBox arcs (marks_of arcs new (suc k)) cables) place b)) in
            omega arith,
      )
  | inr other ↦ (
    sound.parents j x other.1,
    λ cables g b. sound.bounds j x other.1 cables g (box-was arcs old new (suc j) cables sound.parents still (let l = slice_get_within old j x other.1 in omega arith) b),
  )
]
  where
    still : AreStillMade old new
    still = replaced-still old new i node bound status r

-- a leaf other than the replaced node, which covers a layout, still does
replaced-cover : (s : Site) (arcs : List Arc) (old new : List Node) (i : ℕ) (node : Node) (bound : ℕ) (status : Status) → AreSound s arcs old → IsReplaced old new i node bound status
    → (cables : List Cable) → (IsInBox arcs (marks_of arcs old (suc i)) cables → IsCovered arcs new cables) → IsCovered arcs old cables → IsCovered arcs new cables
replaced-cover s arcs old new i node bound status sound r cables here c = elim (eqb_tells c.place i) [
  | inl t ↦ here (subst (λ (k : ℕ). IsInBox arcs (marks_of arcs old (suc k)) cables) t.1 c.in_box)
  | inr t ↦ record {
    place = c.place;
    node = c.node;
    made = r.others c.place c.node t.1 c.made;
    open_leaf = c.open_leaf;
    in_box = box-still arcs old new (suc c.place) cables sound.parents (replaced-still old new i node bound status r) (let l = slice_get_within old c.place c.node c.made in omega arith) c.in_box;
  }
]

-- a leaf whose new bound holds in its box, and that is open where its box holds a legal layout
sound-replaced : (s : Site) (arcs : List Arc) (old : List Node) (i : ℕ) (node : Node) (bound : ℕ) (status : Status) → AreSound s arcs old → slice_get old i ≡ Some node
    → IsBoundIn s arcs old (suc i) bound → ((cables : List Cable) → IsLegal s cables → IsInBox arcs (marks_of arcs old (suc i)) cables → IsTrue (is_open_leaf status))
    → AreSound s arcs (slice_set old i (worked node bound status))
sound-replaced s arcs old i node bound status sound e holds leaf = record {
  parents = λ j x h. (replaced-node s arcs old new i node bound status sound r holds j x (set_either old i y node e j x h)).0;
  bounds = λ j x h. (replaced-node s arcs old new i node bound status sound r holds j x (set_either old i y node e j x h)).1;
  cover = λ cables g. replaced-cover s arcs old new i node bound status sound r cables (λ b. record {
    place = i;
    node = y;
    made = r.is;
    open_leaf = leaf cables g b;
    in_box = box-still arcs old new (suc i) cables sound.parents (replaced-still old new i node bound status r) (let l = slice_get_within old i node e in omega arith) b;
  }) (sound.cover cables g);
}
  where
    y : Node
    y = worked node bound status

    new : List Node
    new = slice_set old i (worked node bound status)

    r : IsReplaced old (slice_set old i (worked node bound status)) i node bound status
    r = replaced-set old i node bound status e

-- a split makes children
pub split-child : (arcs : List Arc) (old : List Node) (i a : ℕ) (node : Node) (bound : ℕ) → slice_get old i ≡ Some node → slice_get (marks_of arcs old (suc i)) a ≡ Some Free
    → (k : ℕ) (mark : Mark) → slice_get (children (suc i) bound a) k ≡ Some (child (suc i) bound a mark)
    → IsChild old (split_nodes old i node bound a) (length (slice_set old i (worked node bound WasSplit)) + k) (suc i) a mark
split-child arcs old i a node bound e free k mark h =
    let mid = slice_set old i (worked node bound WasSplit) in
    let l = slice_get_within old i node e in
    let m = slice_get_within mid i (worked node bound WasSplit) (set_here old i node (worked node bound WasSplit) e) in
    record {
      node = child (suc i) bound a mark;
      made = append_right mid (children (suc i) bound a) k ∙ h;
      parent = refl;
      arc_is = refl;
      mark_is = refl;
      after = omega arith;
      within = omega arith;
      free = (marks_of-at arcs old (suc i) a Free free).1;
    }

-- a node is split at an arc that is free in it: both children have the new bound, and each layout of its box is in the box of one of them
sound-split : (s : Site) (arcs : List Arc) (old : List Node) (i a : ℕ) (node : Node) (bound : ℕ) → AreSound s arcs old → slice_get old i ≡ Some node
    → IsBoundIn s arcs old (suc i) bound → slice_get (marks_of arcs old (suc i)) a ≡ Some Free
    → AreSound s arcs (split_nodes old i node bound a)
sound-split s arcs old i a node bound sound e holds free = record {
  parents = λ j x h. (each_node j x h).0;
  bounds = λ j x h. (each_node j x h).1;
  cover = λ cables g. replaced-cover s arcs old new i node bound WasSplit sound r cables (λ b. by_use cables b (has_arc cables arc.0) refl) (sound.cover cables g);
}
  where
    mid : List Node
    mid = slice_set old i (worked node bound WasSplit)

    new : List Node
    new = mid ++ children (suc i) bound a

    r : IsReplaced old (split_nodes old i node bound a) i node bound WasSplit
    r = replaced-split old i node bound WasSplit (children (suc i) bound a) e

    still : AreStillMade old (split_nodes old i node bound a)
    still = replaced-still old (split_nodes old i node bound a) i node bound WasSplit r

    in_mid : i < length (slice_set old i (worked node bound WasSplit))
    in_mid = slice_get_within mid i (worked node bound WasSplit) (set_here old i node (worked node bound WasSplit) e)

    arc : (x : Arc) × (slice_get arcs a ≡ Some x)
    arc = some_at arcs a (marks_of-at arcs old (suc i) a Free free).0

    each_child : (k : ℕ) (mark : Mark) → slice_get (children (suc i) bound a) k ≡ Some (child (suc i) bound a mark) → (j : ℕ) (x : Node) → j ≡ length (slice_set old i (worked node bound WasSplit)) + k
        → child (suc i) bound a mark ≡ x → (x.parent ≤ j) × IsBoundIn s arcs (split_nodes old i node bound a) (suc j) x.bound
    each_child k mark h j x place same =
        let l = in_mid in
        let parent : suc i ≡ x.parent = ap (λ (n : Node). n.parent) same in
        let is : bound ≡ x.bound = ap (λ (n : Node). n.bound) same in (
          omega arith,
          λ cables g b.
              let c = holds cables g (box-of_parent arcs old new (length mid + k) (suc i) a mark cables sound.parents still (split-child arcs old i a node bound e free k mark h)
              (subst (λ (k : ℕ). IsInBox arcs (marks_of arcs new (suc k)) cables) place b)) in
              omega arith,
        )

    by_child : (k : ℕ) (j : ℕ) (x : Node) → j ≡ length (slice_set old i (worked node bound WasSplit)) + k → slice_get (children (suc i) bound a) k ≡ Some x
        → (x.parent ≤ j) × IsBoundIn s arcs (split_nodes old i node bound a) (suc j) x.bound
    by_child zero j x place h = each_child 0 Used refl j x place (cc)
    by_child (suc zero) j x place h = each_child 1 Unused refl j x place (cc)
    by_child (suc (suc k)) j x place h = absurd (cc)

    each_node : (j : ℕ) (x : Node) → slice_get (split_nodes old i node bound a) j ≡ Some x
        → (x.parent ≤ j) × IsBoundIn s arcs (split_nodes old i node bound a) (suc j) x.bound
    each_node j x h = elim (append_either mid (children (suc i) bound a) j x h) [
      | inl f ↦ replaced-node s arcs old new i node bound WasSplit sound r holds j x (set_either old i (worked node bound WasSplit) node e j x f)
      | inr c ↦ by_child c.0 j x c.1 c.2
    ]

    covered : (cables : List Cable) → IsInBox arcs (marks_of arcs old (suc i)) cables → (k : ℕ) (mark : Mark) → slice_get (children (suc i) bound a) k ≡ Some (child (suc i) bound a mark)
        → ((x : Arc) → slice_get arcs a ≡ Some x → IsKept mark (has_arc cables x)) → IsCovered arcs (split_nodes old i node bound a) cables
    covered cables b k mark h keeps = record {
      place = length mid + k;
      node = child (suc i) bound a mark;
      made = append_right mid (children (suc i) bound a) k ∙ h;
      open_leaf = refl;
      in_box = box-of_child arcs old new (length mid + k) (suc i) a mark cables sound.parents still (split-child arcs old i a node bound e free k mark h) keeps b;
    }

    by_use : (cables : List Cable) → IsInBox arcs (marks_of arcs old (suc i)) cables → (b : Bool) → has_arc cables arc.0 ≡ b
        → IsCovered arcs (split_nodes old i node bound a) cables
    by_use cables b true t = covered cables b 0 Used refl (λ x h. let f : Some arc.0 ≡ Some x = sym arc.1 ∙ h in let same : arc.0 ≡ x = cc in sym (ap (has_arc cables) same) ∙ t)
    by_use cables b false t =
        covered cables b 1 Unused refl
        (λ x h u. let f : Some arc.0 ≡ Some x = sym arc.1 ∙ h in let same : arc.0 ≡ x = cc in let q : true ≡ false = sym u ∙ sym (ap (has_arc cables) same) ∙ t in cc)

-- the bound of a worked node holds in its box
bound-holds : (s : Site) (arcs : List Arc) (old : ProofState) (i : ℕ) (node : Node) (weights : List (ℕ × ℤ)) (value : ℤ) (bound : ℕ) → IsValid s → AreArcs s arcs → IsSound s arcs old
    → slice_get old.nodes i ≡ Some node → AreLawful old.rows weights → IsValue s arcs old.rows (marks_of arcs old.nodes (suc i)) weights value → IsBound node.bound value bound
    → IsBoundIn s arcs old.nodes (suc i) bound
bound-holds s arcs old i node weights value bound v are sound e lawful is b cables g box =
    b.least (cost s cables) (sound.nodes.bounds i node e cables g box) (value-le s arcs old.rows (marks_of arcs old.nodes (suc i)) weights value cables v are sound.well_formed lawful is g box)

-- node number suc i stands at place i
pub set_at_node : (i : ℕ) (xs : List Node) (y : Node) → slice_set xs (suc i - 1) y ≡ slice_set xs i y
set_at_node i xs y = ap (λ (k : ℕ). slice_set xs k y) (let q : suc i - 1 ≡ i = omega arith in q)

-- an act keeps the nodes sound
sound-acted : (s : Site) (arcs : List Arc) (old : ProofState) (i : ℕ) (node : Node) (weights : List (ℕ × ℤ)) (value : ℤ) (act : Act) (nodes : List Node) → IsValid s → AreArcs s arcs → IsSound s arcs old
    → slice_get old.nodes i ≡ Some node → AreLawful old.rows weights → IsValue s arcs old.rows (marks_of arcs old.nodes (suc i)) weights value
    → IsActed s arcs old (suc i) node value act nodes → AreSound s arcs nodes
sound-acted s arcs old i node weights value (Split a) nodes v are sound e lawful is acted =
    subst (AreSound s arcs) (sym (acted.3 ∙ ap (λ xs. xs ++ children (suc i) acted.0 a) (set_at_node i old.nodes (worked node acted.0 WasSplit))))
    (sound-split s arcs old.nodes i a node acted.0 sound.nodes e (bound-holds s arcs old i node weights value acted.0 v are sound e lawful is acted.1) acted.2)
sound-acted s arcs old i node weights value Stop nodes v are sound e lawful is acted =
    subst (AreSound s arcs) (sym (acted.2 ∙ set_at_node i old.nodes (worked node acted.0 Stopped)))
    (sound-replaced s arcs old.nodes i node acted.0 Stopped sound.nodes e (bound-holds s arcs old i node weights value acted.0 v are sound e lawful is acted.1) (λ cables g b. refl))
sound-acted s arcs old i node weights value (Dead why) nodes v are sound e lawful is acted =
    let holds = bound-holds s arcs old i node weights value acted.0 v are sound e lawful is acted.1 in
    subst (AreSound s arcs) (sym (acted.3 ∙ set_at_node i old.nodes (worked node acted.0 WasDead)))
    (sound-replaced s arcs old.nodes i node acted.0 WasDead sound.nodes e holds
    (λ cables g b. absurd (none-dead s arcs old.rows (marks_of arcs old.nodes (suc i)) acted.0 why v are sound.well_formed holds acted.2 cables g b)))
sound-acted s arcs old i node weights value Full nodes v are sound e lawful is acted =
    subst (AreSound s arcs) (sym (acted.2 ∙ set_at_node i old.nodes (worked node (cost s acted.0) WasFull)))
    (sound-replaced s arcs old.nodes i node (cost s acted.0) WasFull sound.nodes e (λ cables g b. full-cost s arcs (marks_of arcs old.nodes (suc i)) acted.0 cables acted.1 g b) (λ cables g b. refl))

-- a work keeps what accepted items keep
sound-worked : (s : Site) (arcs : List Arc) (n : ℕ) (old new : ProofState) (v : ℕ) (weights : List (ℕ × ℤ)) (act : Act) → IsValid s → AreArcs s arcs → IsSound s arcs old
    → IsWorked s arcs n old v weights act new → IsSound s arcs new
sound-worked s arcs n old new zero weights act valid are sound w = absurd (let e = w.made in cc)
sound-worked s arcs n old new (suc i) weights act valid are sound w = record {
  well_formed = subst (All (IsWellFormed s arcs)) (sym w.rows) sound.well_formed;
  nodes = sound-acted s arcs old i w.node weights w.value act new.nodes valid are sound w.made w.lawful w.is_value w.acted;
}

-- so does each item, ..
pub sound-accepts : (s : Site) (arcs : List Arc) (n : ℕ) (old new : ProofState) (item : Item) → IsValid s → AreArcs s arcs → IsSound s arcs old → Accepts s arcs n old item new → IsSound s arcs new
sound-accepts s arcs n old new (RowItem row) v are sound a = sound-listed s arcs old new row sound a
sound-accepts s arcs n old new (WorkItem u weights act) v are sound a = sound-worked s arcs n old new u weights act v are sound a

-- .. and one item after another
pub sound-leads : (s : Site) (arcs : List Arc) (n : ℕ) (items : List Item) (old new : ProofState) → IsValid s → AreArcs s arcs → IsSound s arcs old → Leads s arcs n old items new → IsSound s arcs new
sound-leads s arcs n [] old new v are sound l = subst (IsSound s arcs) (sym l) sound
sound-leads s arcs n (item ∷ items) old new v are sound l = sound-leads s arcs n items l.0 new v are (sound-accepts s arcs n old l.0 item v are sound l.1) l.2

-- what accepted items leave behind is sound
pub sound-accepted : (s : Site) (arcs : List Arc) (n : ℕ) (items : List Item) (kept : ProofState) → IsValid s → AreArcs s arcs → IsAccepted s arcs n items kept → IsSound s arcs kept
sound-accepted s arcs n items kept v are a = sound-leads s arcs n items empty_state kept v are (sound-nothing s arcs) a

-- every legal layout costs at least the least bound of the open leaves
pub least-sound : (s : Site) (arcs : List Arc) (kept : ProofState) (bound : ℕ) → IsSound s arcs kept → IsLeastBound kept bound → Least s bound
least-sound s arcs kept bound sound b cables g =
    let c = sound.nodes.cover cables g in
    let above : bound ≤ c.node.bound = all-at (λ (x : Node). IsTrue (is_open_leaf x.status) → bound ≤ x.bound) kept.nodes c.place c.node b.least c.made c.open_leaf in
    let holds = sound.nodes.bounds c.place c.node c.made cables g c.in_box in
    omega arith

-- where all leaves are dead there is no legal layout
pub none-sound : (s : Site) (arcs : List Arc) (kept : ProofState) → IsSound s arcs kept → AllDead kept → HasNone s
none-sound s arcs kept sound dead cables g =
    let c = sound.nodes.cover cables g in
    all-at (λ (x : Node). ¬ IsTrue (is_open_leaf x.status)) kept.nodes c.place c.node dead c.made c.open_leaf

-- what a claim says is so, where it agrees with accepted items
pub says-sound : (s : Site) (arcs : List Arc) (n : ℕ) (kept : ProofState) (cables : List Cable) (claim : Claim) → IsSound s arcs kept → Agrees s n kept cables claim → Says s claim
says-sound s arcs n kept cables (Optimal c) sound a = least-sound s arcs kept c sound a.1
says-sound s arcs n kept cables (Gap c b) sound a = least-sound s arcs kept b sound a.1.0
says-sound s arcs n kept cables (Partial b stuck) sound a = least-sound s arcs kept b sound a.1.0
says-sound s arcs n kept cables Infeasible sound a = none-sound s arcs kept sound a.1

-- the bound of a node holds in its box
pub bound-of_node : (s : Site) (arcs : List Arc) (kept : ProofState) → IsSound s arcs kept → (v : ℕ) (node : Node) → node_of kept.nodes v ≡ Some node → IsBoundIn s arcs kept.nodes v node.bound
bound-of_node s arcs kept sound zero node e = absurd (cc)
bound-of_node s arcs kept sound (suc i) node e = sound.nodes.bounds i node e

-- what an accepted document claims is so
pub says-document : (bytes : List ℕ) (s : Site) (claim : Claim) → IsAcceptedDocument bytes s claim → Says s claim
says-document bytes s claim y =
    says-sound s y.arcs y.budget y.kept y.cables claim (sound-accepted s y.arcs y.budget y.items y.kept y.valid y.are_arcs y.accepted) y.agrees
