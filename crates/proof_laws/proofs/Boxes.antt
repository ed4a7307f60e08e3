-- The boxes of the made nodes: marks look at the nodes above alone, so they stay when other nodes are worked or made.
use Rattle.std.proofs.Common.{◌≡◌, ◌≢◌, ℕ, zero, suc, ◌+◌, ◌<◌, ◌≤◌, ◌⊎◌, inl, inr, Bool, true, false, cond, List, [], ◌∷◌, ◌++◌, length, map, slice_get, Some, refl, ap, sym, ◌∙◌, subst, arith, eq-eqb, eqb-true}
use Rattle.std.specs.Prelude.{◌==◌, slice_set}
use Rattle.std.specs.List.{enumerate_from}
use Rattle.std.proofs.lemmas.Bool.Decides.{eqb_tells}
use Rattle.cable_definitions.specs.declared.cable.Cable.{Cable}
use Rattle.cable_definitions.specs.declared.cable.Arc.{Arc}
use Rattle.cable_definitions.specs.declared.row.Mark.{Mark}
use Rattle.cable_definitions.specs.declared.row.Mark.TheVariants.{Free}
use Rattle.cable_definitions.specs.Row.{has_arc}
use Rattle.cable_definitions.specs.Choice.{IsKept, IsInBox}
use Rattle.cable_definitions.specs.Tree.{Node, mark_by, mark_in, marks_of}
use Rattle.proof_laws.proofs.Lists.{some_at}

-- ---- lists that were changed at one place
-- the element that was set
pub set_here : {X : Type 0} → (xs : List X) (i : ℕ) (x y : X) → slice_get xs i ≡ Some x → slice_get (slice_set xs i y) i ≡ Some y
set_here [] i x y e = absurd (cc)
set_here (z ∷ zs) zero x y e = refl
set_here (z ∷ zs) (suc i) x y e = set_here zs i x y e

-- another element
pub set_other : {X : Type 0} → (xs : List X) (i j : ℕ) (y : X) → j ≢ i → slice_get (slice_set xs i y) j ≡ slice_get xs j
set_other [] i j y n = refl
set_other (z ∷ zs) zero zero y n = absurd (n refl)
set_other (z ∷ zs) zero (suc j) y n = refl
set_other (z ∷ zs) (suc i) zero y n = refl
set_other (z ∷ zs) (suc i) (suc j) y n = set_other zs i j y (λ e. n (ap suc e))

-- an element of the changed list is the one that was set or one that stood there
pub set_either : {X : Type 0} → (xs : List X) (i : ℕ) (y z : X) → slice_get xs i ≡ Some z → (j : ℕ) (x : X) → slice_get (slice_set xs i y) j ≡ Some x
    → ((j ≡ i) × (y ≡ x)) ⊎ ((j ≢ i) × (slice_get xs j ≡ Some x))
set_either xs i y z h j x e = elim (eqb_tells j i) [
  | inl t ↦ (let g : Some y ≡ Some x = sym (set_here xs i z y h) ∙ sym (ap (slice_get (slice_set xs i y)) t.1) ∙ e in inl (t.1, (cc)))
  | inr t ↦ inr (t.1, sym (set_other xs i j y t.1) ∙ e)
]

-- an element before the end of the first of two lists
pub append_left : {X : Type 0} → (xs ys : List X) (i : ℕ) (x : X) → slice_get xs i ≡ Some x → slice_get (xs ++ ys) i ≡ Some x
append_left [] ys i x e = absurd (cc)
append_left (z ∷ zs) ys zero x e = e
append_left (z ∷ zs) ys (suc i) x e = append_left zs ys i x e

-- an element of the second
pub append_right : {X : Type 0} → (xs ys : List X) (i : ℕ) → slice_get (xs ++ ys) (length xs + i) ≡ slice_get ys i
append_right [] ys i = ap (slice_get ys) (omega arith)
append_right (z ∷ zs) ys i = ap (slice_get (z ∷ zs ++ ys)) (let q : suc (length zs) + i ≡ suc (length zs + i) = omega arith in q) ∙ append_right zs ys i

-- an element of both together is one of the first or of the second
pub append_either : {X : Type 0} → (xs ys : List X) (i : ℕ) (x : X) → slice_get (xs ++ ys) i ≡ Some x
    → (slice_get xs i ≡ Some x) ⊎ ((j : ℕ) × (i ≡ length xs + j) × (slice_get ys j ≡ Some x))
append_either [] ys i x e = inr (i, (omega arith), e)
append_either (z ∷ zs) ys zero x e = inl e
append_either (z ∷ zs) ys (suc i) x e = elim (append_either zs ys i x e) [
  | inl h ↦ inl h
  | inr r ↦ (let q : i ≡ length zs + r.0 = r.1 in inr (r.0, (omega arith), r.2))
]

-- ---- boxes by the numbers of the arcs
-- a layout is in the box where each arc's mark is given by a function of its number
abbrev pub IsInBoxBy : List Arc → (ℕ → Mark) → List Cable → Type 0
IsInBoxBy arcs mark cables = (i : ℕ) (a : Arc) → slice_get arcs i ≡ Some a → IsKept (mark i) (has_arc cables a)

-- that box is the one of the marks in a list, ..
box-by_from : (arcs : List Arc) (mark : ℕ → Mark) (cables : List Cable) (n : ℕ) → IsInBox arcs (map (λ (x : ℕ × Arc). mark x.0) (enumerate_from n arcs)) cables
    → (i : ℕ) (a : Arc) → slice_get arcs i ≡ Some a → IsKept (mark (n + i)) (has_arc cables a)
box-by_from [] mark cables n b i a e = absurd (cc)
box-by_from (x ∷ xs) mark cables n b zero a e =
    let same : x ≡ a = cc in
    subst (λ (k : ℕ). IsKept (mark k) (has_arc cables a)) (let q : n ≡ n + 0 = omega arith in q) (subst (λ (y : Arc). IsKept (mark n) (has_arc cables y)) same b.0)
box-by_from (x ∷ xs) mark cables n b (suc i) a e =
    subst (λ (k : ℕ). IsKept (mark k) (has_arc cables a)) (let q : n + 1 + i ≡ n + suc i = omega arith in q) (box-by_from xs mark cables (n + 1) b.1 i a e)

-- .. in both directions
box-from_by : (arcs : List Arc) (mark : ℕ → Mark) (cables : List Cable) (n : ℕ) → ((i : ℕ) (a : Arc) → slice_get arcs i ≡ Some a → IsKept (mark (n + i)) (has_arc cables a))
    → IsInBox arcs (map (λ (x : ℕ × Arc). mark x.0) (enumerate_from n arcs)) cables
box-from_by [] mark cables n h = tt
box-from_by (x ∷ xs) mark cables n h = (
  subst (λ (k : ℕ). IsKept (mark k) (has_arc cables x)) (let q : n + 0 ≡ n = omega arith in q) (h 0 x refl),
  box-from_by xs mark cables (n + 1) (λ i a e. subst (λ (k : ℕ). IsKept (mark k) (has_arc cables a)) (let q : n + suc i ≡ n + 1 + i = omega arith in q) (h (suc i) a e)),
)

-- the box of a node, arc by arc
pub box-marks : (arcs : List Arc) (nodes : List Node) (v : ℕ) (cables : List Cable) → IsInBox arcs (marks_of arcs nodes v) cables → IsInBoxBy arcs (λ a. mark_in v nodes a v) cables
box-marks arcs nodes v cables b i a e =
    subst (λ (k : ℕ). IsKept (mark_in v nodes k v) (has_arc cables a)) (let q : 0 + i ≡ i = omega arith in q) (box-by_from arcs (λ a. mark_in v nodes a v) cables 0 b i a e)

-- and back
pub marks-box : (arcs : List Arc) (nodes : List Node) (v : ℕ) (cables : List Cable) → IsInBoxBy arcs (λ a. mark_in v nodes a v) cables → IsInBox arcs (marks_of arcs nodes v) cables
marks-box arcs nodes v cables h =
    box-from_by arcs (λ a. mark_in v nodes a v) cables 0 (λ i a e. subst (λ (k : ℕ). IsKept (mark_in v nodes k v) (has_arc cables a)) (let q : i ≡ 0 + i = omega arith in q) (h i a e))

-- the mark of an arc in the list of all marks
pub marks_of-at : (arcs : List Arc) (nodes : List Node) (v a : ℕ) (mark : Mark) → slice_get (marks_of arcs nodes v) a ≡ Some mark → (a < length arcs) × (mark_in v nodes a v ≡ mark)
marks_of-at arcs nodes v a mark e =
    let r = from arcs 0 a e in
    (r.0, ap (λ (k : ℕ). mark_in v nodes k v) (let q : a ≡ 0 + a = omega arith in q) ∙ r.1)
  where
    from : (arcs : List Arc) (n i : ℕ) → slice_get (map (λ (x : ℕ × Arc). mark_in v nodes x.0 v) (enumerate_from n arcs)) i ≡ Some mark → (i < length arcs) × (mark_in v nodes (n + i) v ≡ mark)
    from [] n i e = absurd (cc)
    from (x ∷ xs) n zero e = (omega arith, ap (λ (k : ℕ). mark_in v nodes k v) (let q : n + 0 ≡ n = omega arith in q) ∙ (cc))
    from (x ∷ xs) n (suc i) e =
        let r = from xs (n + 1) i e in
        let l : i < length xs = r.0 in
        (omega arith, ap (λ (k : ℕ). mark_in v nodes k v) (let q : n + suc i ≡ n + 1 + i = omega arith in q) ∙ r.1)

-- ---- marks when nodes are worked or made
-- each node's parent is a node before it
abbrev pub AreParentsBefore : List Node → Type 0
AreParentsBefore nodes = (i : ℕ) (x : Node) → slice_get nodes i ≡ Some x → x.parent ≤ i

-- each old node is still made, with the same parent, arc and mark
pub record IsStillMade (new : List Node) (i : ℕ) (x : Node) : Type 0 where
  pub node : Node
  pub made : slice_get new i ≡ Some node
  pub parent : node.parent ≡ x.parent
  pub arc : node.arc ≡ x.arc
  pub mark : node.mark ≡ x.mark

abbrev pub AreStillMade : List Node → List Node → Type 0
AreStillMade old new = (i : ℕ) (x : Node) → slice_get old i ≡ Some x → IsStillMade new i x

-- each node is still made as it is
pub still_made : (nodes : List Node) → AreStillMade nodes nodes
still_made nodes i x e = record { node = x; made = e; parent = refl; arc = refl; mark = refl }

-- where old nodes are still made, the marks in them are the same, in at least as many steps as the node's number
pub mark_in-still : (old new : List Node) → AreParentsBefore old → AreStillMade old new → (a m n v : ℕ) → v ≤ m → v ≤ n → v ≤ length old → mark_in m old a v ≡ mark_in n new a v
mark_in-still old new up still a zero zero v l k h = refl
mark_in-still old new up still a zero (suc n) zero l k h = refl
mark_in-still old new up still a zero (suc n) (suc v) l k h = absurd (omega arith)
mark_in-still old new up still a (suc m) zero zero l k h = refl
mark_in-still old new up still a (suc m) zero (suc v) l k h = absurd (omega arith)
mark_in-still old new up still a (suc m) (suc n) zero l k h = refl
mark_in-still old new up still a (suc m) (suc n) (suc v) l k h =
    let x = some_at old v (omega arith) in
    let y = still v x.0 x.1 in
    let before : x.0.parent ≤ v = up v x.0 x.1 in
    let above = mark_in-still old new up still a m n x.0.parent (omega arith) (omega arith) (omega arith) in
    ap (λ o. mark_by a o (mark_in m old a)) x.1
    ∙ by_case x.0 y.node y.parent y.arc y.mark above (x.0.arc == a) refl
    ∙ sym (ap (λ o. mark_by a o (mark_in n new a)) y.made)
  where
    by_case : (x y : Node) → y.parent ≡ x.parent → y.arc ≡ x.arc → y.mark ≡ x.mark → mark_in m old a x.parent ≡ mark_in n new a x.parent → (b : Bool) → (x.arc == a) ≡ b
        → mark_by a (Some x) (mark_in m old a) ≡ mark_by a (Some y) (mark_in n new a)
    by_case x y p q r e true t =
        let f : (y.arc == a) ≡ true = ap (λ (k : ℕ). k == a) q ∙ t in
        ap (λ b. cond b x.mark (mark_in m old a x.parent)) t ∙ sym r ∙ sym (ap (λ b. cond b y.mark (mark_in n new a y.parent)) f)
    by_case x y p q r e false t =
        let f : (y.arc == a) ≡ false = ap (λ (k : ℕ). k == a) q ∙ t in
        ap (λ b. cond b x.mark (mark_in m old a x.parent)) t ∙ e ∙ ap (mark_in n new a) (sym p) ∙ sym (ap (λ b. cond b y.mark (mark_in n new a y.parent)) f)

-- so a layout is in the box of an old node, ..
pub box-still : (arcs : List Arc) (old new : List Node) (v : ℕ) (cables : List Cable) → AreParentsBefore old → AreStillMade old new → v ≤ length old
    → IsInBox arcs (marks_of arcs old v) cables → IsInBox arcs (marks_of arcs new v) cables
box-still arcs old new v cables up still h b =
    marks-box arcs new v cables (λ i a e. subst (λ mark. IsKept mark (has_arc cables a)) (mark_in-still old new up still i v v v (omega arith) (omega arith) h) (box-marks arcs old v cables b i a e))

-- .. exactly where it was
pub box-was : (arcs : List Arc) (old new : List Node) (v : ℕ) (cables : List Cable) → AreParentsBefore old → AreStillMade old new → v ≤ length old
    → IsInBox arcs (marks_of arcs new v) cables → IsInBox arcs (marks_of arcs old v) cables
box-was arcs old new v cables up still h b =
    marks-box arcs old v cables (λ i a e. subst (λ mark. IsKept mark (has_arc cables a)) (sym (mark_in-still old new up still i v v v (omega arith) (omega arith) h)) (box-marks arcs new v cables b i a e))

-- ---- children
-- the mark of an arc in a made child of node v: the child's own mark at its arc, and the mark in v elsewhere
pub mark_in-child : (old new : List Node) → AreParentsBefore old → AreStillMade old new → (a j v : ℕ) (x : Node) → slice_get new j ≡ Some x → x.parent ≡ v → v ≤ j → v ≤ length old
    → mark_in (suc j) new a (suc j) ≡ cond (x.arc == a) x.mark (mark_in v old a v)
mark_in-child old new up still a j v x e p l h =
    ap (λ o. mark_by a o (mark_in j new a)) e
    ∙ ap (λ (m : Mark). cond (x.arc == a) x.mark m) (ap (mark_in j new a) p ∙ sym (mark_in-still old new up still a v j v (omega arith) l h))

-- a child of node v at an arc that is free in v
pub record IsChild (old new : List Node) (j v arc : ℕ) (mark : Mark) : Type 0 where
  pub node : Node
  pub made : slice_get new j ≡ Some node
  pub parent : node.parent ≡ v
  pub arc_is : node.arc ≡ arc
  pub mark_is : node.mark ≡ mark
  pub after : v ≤ j
  pub within : v ≤ length old
  pub free : mark_in v old arc v ≡ Free

-- the marks of the child
pub mark_in-child_is : (old new : List Node) → AreParentsBefore old → AreStillMade old new → (j v arc : ℕ) (mark : Mark) → IsChild old new j v arc mark → (a : ℕ)
    → mark_in (suc j) new a (suc j) ≡ cond (arc == a) mark (mark_in v old a v)
mark_in-child_is old new up still j v arc mark c a =
    mark_in-child old new up still a j v c.node c.made c.parent c.after c.within
    ∙ ap (λ (k : ℕ). cond (k == a) c.node.mark (mark_in v old a v)) c.arc_is
    ∙ ap (λ (m : Mark). cond (arc == a) m (mark_in v old a v)) c.mark_is

-- the box of a child lies in its parent's
pub box-of_parent : (arcs : List Arc) (old new : List Node) (j v arc : ℕ) (mark : Mark) (cables : List Cable) → AreParentsBefore old → AreStillMade old new → IsChild old new j v arc mark
    → IsInBox arcs (marks_of arcs new (suc j)) cables → IsInBox arcs (marks_of arcs old v) cables
box-of_parent arcs old new j v arc mark cables up still c b =
    marks-box arcs old v cables (λ i a e.
    by_case i a (arc == i) refl (subst (λ (m : Mark). IsKept m (has_arc cables a)) (mark_in-child_is old new up still j v arc mark c i) (box-marks arcs new (suc j) cables b i a e)))
  where
    by_case : (i : ℕ) (a : Arc) (t : Bool) → (arc == i) ≡ t → IsKept (cond (arc == i) mark (mark_in v old i v)) (has_arc cables a) → IsKept (mark_in v old i v) (has_arc cables a)
    by_case i a true t k = subst (λ (m : Mark). IsKept m (has_arc cables a)) (sym (ap (λ (n : ℕ). mark_in v old n v) (sym (eqb-true arc i t)) ∙ c.free)) tt
    by_case i a false t k = subst (λ (b : Bool). IsKept (cond b mark (mark_in v old i v)) (has_arc cables a)) t k

-- a layout in the box of the parent is in the child's where the child's mark keeps it
pub box-of_child : (arcs : List Arc) (old new : List Node) (j v arc : ℕ) (mark : Mark) (cables : List Cable) → AreParentsBefore old → AreStillMade old new → IsChild old new j v arc mark
    → ((a : Arc) → slice_get arcs arc ≡ Some a → IsKept mark (has_arc cables a)) → IsInBox arcs (marks_of arcs old v) cables → IsInBox arcs (marks_of arcs new (suc j)) cables
box-of_child arcs old new j v arc mark cables up still c keeps b =
    marks-box arcs new (suc j) cables (λ i a e.
    subst (λ (m : Mark). IsKept m (has_arc cables a)) (sym (mark_in-child_is old new up still j v arc mark c i)) (by_case i a e (arc == i) refl))
  where
    by_case : (i : ℕ) (a : Arc) → slice_get arcs i ≡ Some a → (t : Bool) → (arc == i) ≡ t → IsKept (cond t mark (mark_in v old i v)) (has_arc cables a)
    by_case i a e true t = keeps a (ap (slice_get arcs) (eqb-true arc i t) ∙ e)
    by_case i a e false t = box-marks arcs old v cables b i a e

-- a layout in the box of a child keeps the child's mark at its arc
pub box-keeps : (arcs : List Arc) (old new : List Node) (j v arc : ℕ) (mark : Mark) (cables : List Cable) → AreParentsBefore old → AreStillMade old new → IsChild old new j v arc mark
    → IsInBox arcs (marks_of arcs new (suc j)) cables → (a : Arc) → slice_get arcs arc ≡ Some a → IsKept mark (has_arc cables a)
box-keeps arcs old new j v arc mark cables up still c b a e =
    subst (λ (m : Mark). IsKept m (has_arc cables a)) (mark_in-child_is old new up still j v arc mark c arc ∙ ap (λ (t : Bool). cond t mark (mark_in v old arc v)) (eq-eqb arc arc refl)) (box-marks arcs new (suc j) cables b arc a e)
