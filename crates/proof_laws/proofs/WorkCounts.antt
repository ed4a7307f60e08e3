-- Works and the most works that are left: together they never grow, so works stay below the budget that is always enough.
use Rattle.std.proofs.Common.{◌≡◌, ℕ, zero, suc, ◌+◌, ◌-◌, ◌^◌, ◌<◌, ◌≤◌, Bool, true, false, cond, ℤ, List, [], ◌∷◌, ◌++◌, length, map, slice_get, Some, sum_by, count_by, refl, ap, ◌∙◌, arith}
use Rattle.std.specs.Prelude.{◌==◌, slice_set}
use Rattle.std.specs.List.{enumerate_from}
use Rattle.std.proofs.Math.ListN.{length-set}
use Rattle.std.proofs.Math.Nat.{two-pow-succ}
use Rattle.std.proofs.lemmas.Nat.{pow_pos}
use Rattle.std.proofs.lemmas.Option.{slice_get_within}
use Rattle.std.proofs.lemmas.List.Sums.{sum_by-cons}
use Rattle.cable_definitions.specs.declared.cable.Arc.{Arc}
use Rattle.cable_definitions.specs.declared.row.Mark.{Mark}
use Rattle.cable_definitions.specs.declared.row.Mark.TheVariants.{Free, Used, Unused}
use Rattle.cable_definitions.specs.declared.row.Act.{Act}
use Rattle.cable_definitions.specs.declared.row.Act.TheVariants.{Split, Stop, Dead, Full}
use Rattle.cable_definitions.specs.Site.{Site, IsValid}
use Rattle.cable_definitions.specs.Arcs.{AreArcs}
use Rattle.cable_definitions.specs.Layout.{cost}
use Rattle.cable_definitions.specs.Budget.{enough_budget}
use Rattle.cable_definitions.specs.Tree.{Status, Unworked, WasSplit, Stopped, WasDead, WasFull, Node, Item, RowItem, WorkItem, ProofState, root, empty_state, node_of, mark_in, marks_of, worked, child, IsActed, Accepts, Leads, IsAccepted}
use Rattle.number_laws.proofs.NatSums.{sum_by-same_on}
use Rattle.number_laws.proofs.Places.{slice_get-enumerate_from}
use Rattle.proof_laws.specs.WorksLeft.{is_free, free_in, works_below, works_left}
use Rattle.proof_laws.proofs.Boxes.{AreParentsBefore, AreStillMade}
use Rattle.proof_laws.proofs.Sound.{IsSound, sound-nothing, sound-accepts, children, split_nodes, replaced-set, replaced-split, replaced-still, split-child, set_at_node}
use Rattle.proof_laws.proofs.Growing.{marks-still, marks-child}

-- ---- sums over numbered elements
-- a changed element
sum_by-changed : {X : Type 0} → (f : ℕ × X → ℕ) (n : ℕ) (xs : List X) (i : ℕ) (x y : X) → slice_get xs i ≡ Some x
    → sum_by f (enumerate_from n (slice_set xs i y)) + f (n + i, x) ≡ sum_by f (enumerate_from n xs) + f (n + i, y)
sum_by-changed f n [] i x y e = absurd (cc)
sum_by-changed {X} f n (z ∷ zs) zero x y e =
    let same : z ≡ x = cc in
    let place : n + 0 ≡ n = omega arith in
    let a = ap (λ (k : ℕ). f (k, x)) place in
    let b = ap (λ (k : ℕ). f (k, y)) place in
    let c = ap (λ (w : X). f (n, w)) same in
    omega (arith, a, b, c, sum_by-cons f (n, z) (enumerate_from (n + 1) zs), sum_by-cons f (n, y) (enumerate_from (n + 1) zs))
sum_by-changed f n (z ∷ zs) (suc i) x y e =
    let place : n + 1 + i ≡ n + suc i = omega arith in
    let a = ap (λ (k : ℕ). f (k, x)) place in
    let b = ap (λ (k : ℕ). f (k, y)) place in
    let r = sum_by-changed f (n + 1) zs i x y e in
    omega (arith, a, b, r, sum_by-cons f (n, z) (enumerate_from (n + 1) zs), sum_by-cons f (n, z) (enumerate_from (n + 1) (slice_set zs i y)))

-- appended elements
sum_by-appended : {X : Type 0} → (f : ℕ × X → ℕ) (n : ℕ) (xs ys : List X)
    → sum_by f (enumerate_from n (xs ++ ys)) ≡ sum_by f (enumerate_from n xs) + sum_by f (enumerate_from (n + length xs) ys)
sum_by-appended f n [] ys = let e = ap (λ (k : ℕ). sum_by f (enumerate_from k ys)) (let q : n ≡ n + 0 = omega arith in q) in omega (arith, e)
sum_by-appended f n (x ∷ xs) ys =
    let e = ap (λ (k : ℕ). sum_by f (enumerate_from k ys)) (let q : n + 1 + length xs ≡ n + suc (length xs) = omega arith in q) in
    omega (arith, e, sum_by-appended f (n + 1) xs ys, sum_by-cons f (n, x) (enumerate_from (n + 1) xs), sum_by-cons f (n, x) (enumerate_from (n + 1) (xs ++ ys)))

-- ---- free arcs
-- a free arc that is decided is one free arc less
free-set : (marks : List Mark) (a : ℕ) (mark : Mark) → slice_get marks a ≡ Some Free → is_free mark ≡ false → count_by is_free (slice_set marks a mark) + 1 ≡ count_by is_free marks
free-set [] a mark e n = absurd (cc)
free-set (m ∷ marks) zero mark e n =
    let same : m ≡ Free = cc in
    let b : cond (is_free m) (let n : ℕ = 1 in n) 0 ≡ 1 = ap (λ (k : Mark). cond (is_free k) (let n : ℕ = 1 in n) 0) same in
    let c : cond (is_free mark) (let n : ℕ = 1 in n) 0 ≡ 0 = ap (λ (t : Bool). cond t (let n : ℕ = 1 in n) 0) n in
    omega (arith, b, c, sum_by-cons (λ (k : Mark). cond (is_free k) 1 0) m marks, sum_by-cons (λ (k : Mark). cond (is_free k) 1 0) mark marks)
free-set (m ∷ marks) (suc a) mark e n =
    omega (arith, free-set marks a mark e n, sum_by-cons (λ (k : Mark). cond (is_free k) 1 0) m marks, sum_by-cons (λ (k : Mark). cond (is_free k) 1 0) m (slice_set marks a mark))

-- in node 1 all arcs are free before the first item
free-root : (arcs : List Arc) → free_in arcs (root ∷ []) 1 ≡ length arcs
free-root arcs = from 0 arcs
  where
    by_case : (t : Bool) → cond (is_free (cond t Free Free)) (let n : ℕ = 1 in n) 0 ≡ 1
    by_case true = refl
    by_case false = refl

    from : (n : ℕ) (xs : List Arc) → count_by is_free (map (λ (x : ℕ × Arc). mark_in 1 (root ∷ []) x.0 1) (enumerate_from n xs)) ≡ length xs
    from n [] = refl
    from n (x ∷ xs) =
        omega (
          arith,
          from (n + 1) xs,
          by_case (0 == n),
          sum_by-cons (λ (k : Mark). cond (is_free k) 1 0) (mark_in 1 (root ∷ []) n 1) (map (λ (x : ℕ × Arc). mark_in 1 (root ∷ []) x.0 1) (enumerate_from (n + 1) xs)),
        )

-- ---- works that are left
-- what is left below a numbered node, in a tree
abbrev pub left_at : List Arc → List Node → ℕ × Node → ℕ
left_at arcs nodes x = works_below x.1.status (free_in arcs nodes x.0)

-- where the old nodes are still made, the same is left below each of them
left-still : (arcs : List Arc) (old new : List Node) → AreParentsBefore old → AreStillMade old new → (xs : List Node) → length xs ≤ length old
    → sum_by (left_at arcs new) (enumerate_from 1 xs) ≡ sum_by (left_at arcs old) (enumerate_from 1 xs)
left-still arcs old new up still xs h =
    sum_by-same_on (left_at arcs new) (left_at arcs old) (enumerate_from 1 xs) (λ j x e.
    let place = slice_get-enumerate_from 1 xs j x e in
    let number : x.0 ≡ 1 + j = place.0 in
    let within = slice_get_within xs j x.1 place.1 in
    ap (λ (marks : List Mark). works_below x.1.status (count_by is_free marks)) (marks-still arcs old new x.0 up still (omega arith)))

-- nothing is left below a worked node, whatever it takes
pub record IsWorkedStatus (status : Status) : Type 0 where
  pub none_left : (free : ℕ) → works_below status free ≡ 0

-- a power of two is one or more
power-some : (n : ℕ) → 1 ≤ 2 ^ n
power-some n = let p = pow_pos n in omega arith

-- a work that makes no nodes takes one of what is left, or more
left-replaced : (arcs : List Arc) (old : List Node) (i : ℕ) (node : Node) (bound : ℕ) (status : Status) → AreParentsBefore old → slice_get old i ≡ Some node → node.status ≡ Unworked
    → IsWorkedStatus status → 1 + works_left arcs (slice_set old i (worked node bound status)) ≤ works_left arcs old
left-replaced arcs old i node bound status up e unworked w =
    let y = worked node bound status in
    let new = slice_set old i y in
    let still = replaced-still old new i node bound status (replaced-set old i node bound status e) in
    let many = length-set old i y in
    let same = left-still arcs old new up still new (omega (arith, many)) in
    let changed = sum_by-changed (left_at arcs old) 1 old i node y e in
    let before : left_at arcs old (1 + i, node) ≡ 2 ^ (free_in arcs old (1 + i) + 1) - 1 = ap (λ status. works_below status (free_in arcs old (1 + i))) unworked in
    let after : left_at arcs old (1 + i, y) ≡ 0 = w.none_left (free_in arcs old (1 + i)) in
    let free = power-some (free_in arcs old (1 + i)) in
    let double = two-pow-succ (free_in arcs old (1 + i)) in
    let next = ap (λ (k : ℕ). 2 ^ k) (let q : free_in arcs old (1 + i) + 1 ≡ suc (free_in arcs old (1 + i)) = omega arith in q) in
    omega (arith, same, changed, before, after, free, double, next)

-- each child of a split has one free arc less
child-free : (arcs : List Arc) (old : List Node) (i a : ℕ) (node : Node) (bound : ℕ) → AreParentsBefore old → slice_get old i ≡ Some node → slice_get (marks_of arcs old (suc i)) a ≡ Some Free
    → (k : ℕ) (mark : Mark) → is_free mark ≡ false → slice_get (children (suc i) bound a) k ≡ Some (child (suc i) bound a mark)
    → free_in arcs (split_nodes old i node bound a) (suc (length (slice_set old i (worked node bound WasSplit)) + k)) + 1 ≡ free_in arcs old (suc i)
child-free arcs old i a node bound up e free k mark n h =
    let new = split_nodes old i node bound a in
    let still = replaced-still old new i node bound WasSplit (replaced-split old i node bound WasSplit (children (suc i) bound a) e) in
    let j = length (slice_set old i (worked node bound WasSplit)) + k in
    let marks = marks-child arcs old new j (suc i) a mark up still (split-child arcs old i a node bound e free k mark h) in
    ap (λ (marks : List Mark). count_by is_free marks + 1) marks ∙ free-set (marks_of arcs old (suc i)) a mark free n

-- a split takes one of what is left: its children can take the others
left-split : (arcs : List Arc) (old : List Node) (i a : ℕ) (node : Node) (bound : ℕ) → AreParentsBefore old → slice_get old i ≡ Some node → node.status ≡ Unworked
    → slice_get (marks_of arcs old (suc i)) a ≡ Some Free → 1 + works_left arcs (split_nodes old i node bound a) ≡ works_left arcs old
left-split arcs old i a node bound up e unworked free =
    let y = worked node bound WasSplit in
    let mid = slice_set old i y in
    let kids = children (suc i) bound a in
    let new = split_nodes old i node bound a in
    let still = replaced-still old new i node bound WasSplit (replaced-split old i node bound WasSplit kids e) in
    let many = length-set old i y in
    let both = sum_by-appended (left_at arcs new) 1 mid kids in
    let same = left-still arcs old new up still mid (omega (arith, many)) in
    let changed = sum_by-changed (left_at arcs old) 1 old i node y e in
    let number : 1 + i ≡ suc i = omega arith in
    let before : left_at arcs old (1 + i, node) ≡ 2 ^ (free_in arcs old (suc i) + 1) - 1 =
    ap (λ status. works_below status (free_in arcs old (1 + i))) unworked ∙ ap (λ (v : ℕ). 2 ^ (free_in arcs old v + 1) - 1) number in
    let first = child-free arcs old i a node bound up e free 0 Used refl refl in
    let second = child-free arcs old i a node bound up e free 1 Unused refl refl in
    by_children (1 + length mid) (suc (length mid + 0)) (suc (length mid + 1)) (omega arith) (omega arith) new first second
    (sum_by (left_at arcs old) (enumerate_from 1 mid)) (left_at arcs old (1 + i, node)) (omega (arith, changed)) before
    (omega (arith, both, same))
  where
    by_children : (n p q : ℕ) → n ≡ p → n + 1 ≡ q → (new : List Node) → free_in arcs new p + 1 ≡ free_in arcs old (suc i) → free_in arcs new q + 1 ≡ free_in arcs old (suc i)
        → (kept own : ℕ) → kept + own ≡ works_left arcs old → own ≡ 2 ^ (free_in arcs old (suc i) + 1) - 1
        → {all : ℕ} → all ≡ kept + sum_by (left_at arcs new) (enumerate_from n (children (suc i) bound a)) → 1 + all ≡ works_left arcs old
    by_children n p q e f new first second kept own changed is {all} both =
        let one = ap (λ (k : ℕ). 2 ^ (free_in arcs new k + 1) - 1) e in
        let two = ap (λ (k : ℕ). 2 ^ (free_in arcs new k + 1) - 1) f in
        let c = sum_by-cons (left_at arcs new) (n, child (suc i) bound a Used) (enumerate_from (n + 1) (child (suc i) bound a Unused ∷ [])) in
        let d = sum_by-cons (left_at arcs new) (n + 1, child (suc i) bound a Unused) [] in
        let g : free_in arcs new p ≡ free_in arcs new q = omega (arith, first, second) in
        let h = ap (λ (k : ℕ). 2 ^ (k + 1)) g in
        let double = two-pow-succ (free_in arcs new p + 1) in
        let next = ap (λ (k : ℕ). 2 ^ k) (let z : free_in arcs old (suc i) + 1 ≡ suc (free_in arcs new p + 1) = omega (arith, first) in z) in
        let some = power-some (free_in arcs new p + 1) in
        omega (arith, one, two, c, d, h, double, next, some)

-- a work takes one of what is left, or more
left-acted : (s : Site) (arcs : List Arc) (old : ProofState) (i : ℕ) (node : Node) (value : ℤ) (act : Act) (nodes : List Node) → AreParentsBefore old.nodes → slice_get old.nodes i ≡ Some node
    → node.status ≡ Unworked → IsActed s arcs old (suc i) node value act nodes → 1 + works_left arcs nodes ≤ works_left arcs old.nodes
left-acted s arcs old i node value (Split a) nodes up e unworked acted =
    let r = left-split arcs old.nodes i a node acted.0 up e unworked acted.2 in
    let same = ap (works_left arcs) (acted.3 ∙ ap (λ xs. xs ++ children (suc i) acted.0 a) (set_at_node i old.nodes (worked node acted.0 WasSplit))) in
    omega (arith, r, same)
left-acted s arcs old i node value Stop nodes up e unworked acted =
    let r = left-replaced arcs old.nodes i node acted.0 Stopped up e unworked (record { none_left = λ free. refl }) in
    let same = ap (works_left arcs) (acted.2 ∙ set_at_node i old.nodes (worked node acted.0 Stopped)) in
    omega (arith, r, same)
left-acted s arcs old i node value (Dead why) nodes up e unworked acted =
    let r = left-replaced arcs old.nodes i node acted.0 WasDead up e unworked (record { none_left = λ free. refl }) in
    let same = ap (works_left arcs) (acted.3 ∙ set_at_node i old.nodes (worked node acted.0 WasDead)) in
    omega (arith, r, same)
left-acted s arcs old i node value Full nodes up e unworked acted =
    let r = left-replaced arcs old.nodes i node (cost s acted.0) WasFull up e unworked (record { none_left = λ free. refl }) in
    let same = ap (works_left arcs) (acted.2 ∙ set_at_node i old.nodes (worked node (cost s acted.0) WasFull)) in
    omega (arith, r, same)

-- no item raises the sum of the works and of what is left, ..
left-accepts : (s : Site) (arcs : List Arc) (n : ℕ) (old new : ProofState) (item : Item) → AreParentsBefore old.nodes → Accepts s arcs n old item new
    → new.works + works_left arcs new.nodes ≤ old.works + works_left arcs old.nodes
left-accepts s arcs n old new (RowItem row) up l =
    let same = ap (works_left arcs) l.nodes in
    let works = l.works in
    omega (arith, same, works)
left-accepts s arcs n old new (WorkItem zero weights act) up w = absurd (let e = w.made in cc)
left-accepts s arcs n old new (WorkItem (suc i) weights act) up w =
    let r = left-acted s arcs old i w.node w.value act new.nodes up w.made w.unworked w.acted in
    let works = w.works in
    omega (arith, r, works)

-- .. so accepted items don't
left-leads : (s : Site) (arcs : List Arc) (n : ℕ) (items : List Item) (old new : ProofState) → IsValid s → AreArcs s arcs → IsSound s arcs old → Leads s arcs n old items new
    → new.works + works_left arcs new.nodes ≤ old.works + works_left arcs old.nodes
left-leads s arcs n [] old new v are sound l =
    let a = ap (λ (k : ProofState). k.works) l in
    let b = ap (λ (k : ProofState). works_left arcs k.nodes) l in
    omega (arith, a, b)
left-leads s arcs n (item ∷ items) old new v are sound l =
    let first = left-accepts s arcs n old l.0 item sound.nodes.parents l.1 in
    let further = left-leads s arcs n items l.0 new v are (sound-accepts s arcs n old l.0 item v are sound l.1) l.2 in
    omega (arith, first, further)

-- works and what is left are at most the budget that is always enough
pub works-left : (s : Site) (arcs : List Arc) (n : ℕ) (items : List Item) (kept : ProofState) → IsValid s → AreArcs s arcs → IsAccepted s arcs n items kept
    → kept.works + works_left arcs kept.nodes ≤ enough_budget arcs
works-left s arcs n items kept v are accepted =
    let r = left-leads s arcs n items empty_state kept v are (sound-nothing s arcs) accepted in
    let one = sum_by-cons (left_at arcs (root ∷ [])) (1, root) [] in
    let free = ap (λ (k : ℕ). 2 ^ (k + 1) - 1) (free-root arcs) in
    omega (arith, r, one, free)

-- below an unworked node something is left
pub left-some : (arcs : List Arc) (nodes : List Node) (v : ℕ) (node : Node) → node_of nodes v ≡ Some node → node.status ≡ Unworked → 1 ≤ works_left arcs nodes
left-some arcs nodes zero node e unworked = absurd (cc)
left-some arcs nodes (suc i) node e unworked =
    let changed = sum_by-changed (left_at arcs nodes) 1 nodes i node (worked node node.bound Stopped) e in
    let own : left_at arcs nodes (1 + i, node) ≡ 2 ^ (free_in arcs nodes (1 + i) + 1) - 1 = ap (λ status. works_below status (free_in arcs nodes (1 + i))) unworked in
    let double = two-pow-succ (free_in arcs nodes (1 + i)) in
    let next = ap (λ (k : ℕ). 2 ^ k) (let q : free_in arcs nodes (1 + i) + 1 ≡ suc (free_in arcs nodes (1 + i)) = omega arith in q) in
    let some = power-some (free_in arcs nodes (1 + i)) in
    omega (arith, changed, own, double, next, some)

-- so while an unworked node stands, the works are below that budget
pub works-below : (s : Site) (arcs : List Arc) (n : ℕ) (items : List Item) (kept : ProofState) → IsValid s → AreArcs s arcs → IsAccepted s arcs n items kept
    → (v : ℕ) (node : Node) → node_of kept.nodes v ≡ Some node → node.status ≡ Unworked → kept.works < enough_budget arcs
works-below s arcs n items kept valid are accepted v node e unworked =
    let all = works-left s arcs n items kept valid are accepted in
    let some = left-some arcs kept.nodes v node e unworked in
    omega (arith, all, some)
