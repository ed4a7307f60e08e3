-- The list of the nodes that aren't worked, when one of them is worked.
use Rattle.std.proofs.Common.{◌≡◌, ◌≢◌, ℕ, zero, suc, ◌+◌, ◌-◌, ◌<◌, ◌≤◌, ◌⊎◌, inl, inr, cond, List, [], ◌∷◌, ◌++◌, length, slice_get, Some, None, Option, count_by, refl, sym, ◌∙◌, ap, subst, arith}
use Rattle.std.specs.Prelude.{◌==◌, slice_set}
use Rattle.std.proofs.Math.ListN.{length-set}
use Rattle.std.proofs.lemmas.Bool.Decides.{eqb_tells}
use Rattle.std.proofs.lemmas.Option.{slice_get_past}
use Rattle.std.proofs.lemmas.List.Sums.{sum_by-append, sum_by-cons}
use Rattle.std.specs.List.Sorted.{IsPermutation}
use Rattle.std.proofs.lemmas.List.Sorted.{sum_by-IsPermutation}
use Rattle.cable_definitions.specs.declared.row.Mark.TheVariants.{Used, Unused}
use Rattle.cable_definitions.specs.declared.row.Act.{Act}
use Rattle.cable_definitions.specs.declared.row.Act.TheVariants.{Split, Stop, Dead, Full}
use Rattle.cable_definitions.specs.Tree.{Status, Unworked, WasSplit, Stopped, WasDead, WasFull, Node, node_of, worked, child, root}
use Rattle.branch_tree.specs.State.{nodes_after}
use Rattle.proof_laws.proofs.Boxes.{set_here, set_other, set_either, append_left, append_right}
use Rattle.search_progress.specs.Progress.{one_if_unworked, unworked_count, AreOpen, AreHeld, AreApart}

-- how often a node stands in a list
abbrev pub times : List ℕ → ℕ → ℕ
times open_nodes v = count_by (λ w. w == v) open_nodes

-- 1 where two numbers are equal
abbrev pub once : ℕ → ℕ → ℕ
once a b = cond (a == b) 1 0

-- one number, counted
one_at : (a b : ℕ) → ((a ≡ b) × (once a b ≡ 1)) ⊎ ((a ≢ b) × (once a b ≡ 0))
one_at a b = elim (eqb_tells a b) [
  | inl t ↦ inl (t.1, ap (λ c. cond {A = ℕ} c 1 0) t.0)
  | inr t ↦ inr (t.1, ap (λ c. cond {A = ℕ} c 1 0) t.0)
]

-- two more
times-two : (xs : List ℕ) (y z v : ℕ) → times (xs ++ y ∷ z ∷ []) v ≡ times xs v + once y v + once z v
times-two xs y z v =
    let a = sum_by-append (λ (w : ℕ). cond (w == v) 1 0) xs (y ∷ z ∷ []) in
    let b = sum_by-cons (λ (w : ℕ). cond (w == v) 1 0) y (z ∷ []) in
    let c = sum_by-cons (λ (w : ℕ). cond (w == v) 1 0) z [] in
    omega (arith, a, b, c)

-- what is counted as not worked is a node that isn't worked
pub is_unworked : (o : Option Node) → 1 ≤ unworked_count o → (node : Node) × (o ≡ Some node) × (node.status ≡ Unworked)
is_unworked None l = absurd (omega arith)
is_unworked (Some node) l = (node, refl, by_status node.status l)
  where
    by_status : (status : Status) → 1 ≤ one_if_unworked status → status ≡ Unworked
    by_status Unworked k = refl
    by_status WasSplit k = absurd (omega arith)
    by_status Stopped k = absurd (omega arith)
    by_status WasDead k = absurd (omega arith)
    by_status WasFull k = absurd (omega arith)

-- one more number in front
times-front : (xs : List ℕ) (y v : ℕ) → times (y ∷ xs) v ≡ once y v + times xs v
times-front xs y v = (let a = sum_by-cons (λ (w : ℕ). cond (w == v) 1 0) y xs in omega (arith, a))

-- a node of the list isn't worked
first_unworked : (nodes : List Node) (rest : List ℕ) (v : ℕ) → AreOpen nodes (v ∷ rest) → (node : Node) × (node_of nodes v ≡ Some node) × (node.status ≡ Unworked)
first_unworked nodes rest v open_nodes =
    let a = times-front rest v v in
    let b = open_nodes v in
    is_unworked (node_of nodes v) (elim (one_at v v) [ inl t ↦ (let c = t.1 in omega (arith, a, b, c)) | inr t ↦ absurd (t.0 refl) ])

-- a node of a list in which one other place was set
other_node : (nodes : List Node) (i : ℕ) (y : Node) (v : ℕ) → v ≢ suc i → node_of (slice_set nodes (suc i - 1) y) v ≡ node_of nodes v
other_node nodes i y zero n = refl
other_node nodes i y (suc j) n = set_other nodes (suc i - 1) j y (λ e. n (omega (arith, e)))

-- the node that was set
same_node : (nodes : List Node) (i : ℕ) (x y : Node) → slice_get nodes i ≡ Some x → node_of (slice_set nodes (suc i - 1) y) (suc i) ≡ Some y
same_node nodes i x y e =
    let q : suc i - 1 ≡ i = omega arith in
    subst (λ (k : ℕ). slice_get (slice_set nodes k y) i ≡ Some y) (sym q) (set_here nodes i x y e)

-- the node is worked: the others are open still
open-worked : (nodes : List Node) (rest : List ℕ) (v : ℕ) (node : Node) (bound : ℕ) (status : Status) → one_if_unworked status ≡ 0 → node_of nodes v ≡ Some node
    → AreOpen nodes (v ∷ rest) → AreOpen (slice_set nodes (v - 1) (worked node bound status)) rest
open-worked nodes rest zero node bound status h e open_nodes v = absurd (cc)
open-worked nodes rest (suc i) node bound status h e open_nodes v =
    let a = times-front rest (suc i) v in
    let b = open_nodes v in
    elim (one_at (suc i) v) [
      | inl t ↦
          let here = first_unworked nodes rest (suc i) open_nodes in
          let c = t.1 in
          let is : unworked_count (node_of (slice_set nodes (suc i - 1) (worked node bound status)) v) ≡ 0 =
          ap (λ (k : ℕ). unworked_count (node_of (slice_set nodes (suc i - 1) (worked node bound status)) k)) (sym t.0) ∙ ap unworked_count (same_node nodes i node (worked node bound status) e) ∙ h
          in
          let was : unworked_count (node_of nodes v) ≡ 1 = ap (λ (k : ℕ). unworked_count (node_of nodes k)) (sym t.0) ∙ ap unworked_count here.1 ∙ ap one_if_unworked here.2 in
          omega (arith, a, b, c, is, was)
      | inr t ↦
          let c = t.1 in
          let same = ap unworked_count (other_node nodes i (worked node bound status) v (λ f. t.0 (sym f))) in
          omega (arith, a, b, c, same)
    ]

-- a place in the first of two lists
pub front_place : {X : Type 0} → (xs ys : List X) (i : ℕ) → i < length xs → slice_get (xs ++ ys) i ≡ slice_get xs i
front_place [] ys i l = absurd (omega arith)
front_place (x ∷ xs) ys zero l = refl
front_place (x ∷ xs) ys (suc i) l = front_place xs ys i (omega arith)

-- a number is below a length, or so far above it
past : (j n : ℕ) → (j < n) ⊎ ((k : ℕ) × (j ≡ n + k))
past j n = elim (eqb_tells (j - n) 0) [
  | inl t ↦ (let z = t.1 in elim (eqb_tells j n) [ inl f ↦ inr (0, (let y = f.1 in omega (arith, y))) | inr f ↦ inl (let y = f.1 in omega (arith, z, y)) ])
  | inr t ↦ inr (j - n, (let z = t.1 in omega (arith, z)))
]

-- two nodes that are made behind all others are open
open-made : (nodes : List Node) (rest : List ℕ) (v bound a : ℕ) → AreOpen nodes rest
    → AreOpen (nodes ++ child v bound a Used ∷ child v bound a Unused ∷ []) (rest ++ (length nodes + 2) ∷ (length nodes + 1) ∷ [])
open-made nodes rest v bound a open_nodes u = by_node u
  where
    made : List Node
    made = child v bound a Used ∷ child v bound a Unused ∷ []

    counted : (u : ℕ) → times (rest ++ (length nodes + 2) ∷ (length nodes + 1) ∷ []) u ≡ times rest u + once (length nodes + 2) u + once (length nodes + 1) u
    counted u = times-two rest (length nodes + 2) (length nodes + 1) u

    not_at : (x u : ℕ) → x ≢ u → once x u ≡ 0
    not_at x u n = elim (one_at x u) [ inl t ↦ absurd (n t.0) | inr t ↦ t.1 ]

    at : (x u : ℕ) → x ≡ u → once x u ≡ 1
    at x u e = elim (one_at x u) [ inl t ↦ t.1 | inr t ↦ absurd (t.0 e) ]

    none_before : (k : ℕ) → times rest (suc (length nodes + k)) ≡ 0
    none_before k = open_nodes (suc (length nodes + k)) ∙ ap unworked_count (slice_get_past nodes (length nodes + k) (omega arith))

    by_place : (k : ℕ) → times (rest ++ (length nodes + 2) ∷ (length nodes + 1) ∷ []) (suc (length nodes + k)) ≡ unworked_count (slice_get (nodes ++ made) (length nodes + k))
    by_place zero =
        let n = none_before 0 in
        let c = counted (suc (length nodes + 0)) in
        let x = not_at (length nodes + 2) (suc (length nodes + 0)) (λ e. omega (arith, e)) in
        let y = at (length nodes + 1) (suc (length nodes + 0)) (omega arith) in
        let is = ap unworked_count (append_right nodes made 0) in
        omega (arith, n, c, x, y, is)
    by_place (suc zero) =
        let n = none_before 1 in
        let c = counted (suc (length nodes + 1)) in
        let x = at (length nodes + 2) (suc (length nodes + 1)) (omega arith) in
        let y = not_at (length nodes + 1) (suc (length nodes + 1)) (λ e. omega (arith, e)) in
        let is = ap unworked_count (append_right nodes made 1) in
        omega (arith, n, c, x, y, is)
    by_place (suc (suc k)) =
        let n = none_before (suc (suc k)) in
        let c = counted (suc (length nodes + suc (suc k))) in
        let x = not_at (length nodes + 2) (suc (length nodes + suc (suc k))) (λ e. omega (arith, e)) in
        let y = not_at (length nodes + 1) (suc (length nodes + suc (suc k))) (λ e. omega (arith, e)) in
        let is = ap unworked_count (append_right nodes made (suc (suc k))) in
        omega (arith, n, c, x, y, is)

    by_node : (u : ℕ) → times (rest ++ (length nodes + 2) ∷ (length nodes + 1) ∷ []) u ≡ unworked_count (node_of (nodes ++ made) u)
    by_node zero =
        let n = open_nodes 0 in
        let c = counted 0 in
        let x = not_at (length nodes + 2) 0 (λ e. omega (arith, e)) in
        let y = not_at (length nodes + 1) 0 (λ e. omega (arith, e)) in
        omega (arith, n, c, x, y)
    by_node (suc j) = elim (past j (length nodes)) [
      | inl l ↦
          let n = open_nodes (suc j) in
          let c = counted (suc j) in
          let x = not_at (length nodes + 2) (suc j) (λ e. omega (arith, e)) in
          let y = not_at (length nodes + 1) (suc j) (λ e. omega (arith, e)) in
          let is = ap unworked_count (front_place nodes made j l) in
          omega (arith, n, c, x, y, is)
      | inr r ↦ subst (λ (i : ℕ). times (rest ++ (length nodes + 2) ∷ (length nodes + 1) ∷ []) (suc i) ≡ unworked_count (slice_get (nodes ++ made) i)) (sym r.1) (by_place r.0)
    ]

-- what the open nodes are after an act on one of them
abbrev pub open_after : List ℕ → Act → ℕ → List ℕ
open_after rest (Split a) count = rest ++ (count + 2) ∷ (count + 1) ∷ []
open_after rest Stop count = rest
open_after rest (Dead why) count = rest
open_after rest Full count = rest

-- the open nodes after an act are those that aren't worked then
pub open-after : (nodes : List Node) (rest : List ℕ) (v : ℕ) (node : Node) (act : Act) (bound : ℕ) → node_of nodes v ≡ Some node
    → AreOpen nodes (v ∷ rest) → AreOpen (nodes_after nodes v node act bound) (open_after rest act (length nodes))
open-after nodes rest v node (Split a) bound e open_nodes =
    let mid = slice_set nodes (v - 1) (worked node bound WasSplit) in
    let l : length mid ≡ length nodes = length-set nodes (v - 1) (worked node bound WasSplit) in
    subst (λ (n : ℕ). AreOpen (mid ++ child v bound a Used ∷ child v bound a Unused ∷ []) (rest ++ (n + 2) ∷ (n + 1) ∷ [])) l
    (open-made mid rest v bound a (open-worked nodes rest v node bound WasSplit refl e open_nodes))
open-after nodes rest v node Stop bound e open_nodes = open-worked nodes rest v node bound Stopped refl e open_nodes
open-after nodes rest v node (Dead why) bound e open_nodes = open-worked nodes rest v node bound WasDead refl e open_nodes
open-after nodes rest v node Full bound e open_nodes = open-worked nodes rest v node bound WasFull refl e open_nodes

-- the root alone is open at the start
pub open-root : AreOpen (root ∷ []) (1 ∷ [])
open-root zero = refl
open-root (suc zero) = refl
open-root (suc (suc k)) = elim (one_at 1 (suc (suc k))) [
  | inl t ↦ absurd (let e = t.0 in omega (arith, e))
  | inr t ↦
      let c = t.1 in
      let b = sum_by-cons (λ (w : ℕ). cond (w == suc (suc k)) 1 0) 1 [] in
      omega (arith, b, c)
]

-- a list in another order has the same open nodes
pub open-permuted : (nodes : List Node) (xs ys : List ℕ) → IsPermutation xs ys → AreOpen nodes xs → AreOpen nodes ys
open-permuted nodes xs ys same h = λ v. sum_by-IsPermutation (λ (w : ℕ). cond (w == v) 1 0) xs ys same ∙ h v

-- the node that was worked has the bound of its work
pub bound-after : (nodes : List Node) (v : ℕ) (node : Node) (act : Act) (bound : ℕ) → node_of nodes v ≡ Some node → (made : Node) → node_of (nodes_after nodes v node act bound) v ≡ Some made → made.bound ≡ bound
bound-after nodes zero node act bound e made f = absurd (cc)
bound-after nodes (suc i) node (Split a) bound e made f =
    let here = append_left (slice_set nodes (suc i - 1) (worked node bound WasSplit)) (child (suc i) bound a Used ∷ child (suc i) bound a Unused ∷ []) i _ (same_node nodes i node (worked node bound WasSplit) e) in
    let same : worked node bound WasSplit ≡ made = cc in
    ap (λ (x : Node). x.bound) (sym same)
bound-after nodes (suc i) node Stop bound e made f =
    let here = same_node nodes i node (worked node bound Stopped) e in
    let same : worked node bound Stopped ≡ made = cc in
    ap (λ (x : Node). x.bound) (sym same)
bound-after nodes (suc i) node (Dead why) bound e made f =
    let here = same_node nodes i node (worked node bound WasDead) e in
    let same : worked node bound WasDead ≡ made = cc in
    ap (λ (x : Node). x.bound) (sym same)
bound-after nodes (suc i) node Full bound e made f =
    let here = same_node nodes i node (worked node bound WasFull) e in
    let same : worked node bound WasFull ≡ made = cc in
    ap (λ (x : Node). x.bound) (sym same)

-- another node stays as it is
other-after : (nodes : List Node) (v : ℕ) (node : Node) (act : Act) (bound w : ℕ) (x : Node) → node_of nodes v ≡ Some node → w ≢ v → node_of nodes w ≡ Some x → node_of (nodes_after nodes v node act bound) w ≡ Some x
other-after nodes zero node act bound w x e n f = absurd (cc)
other-after nodes (suc i) node act bound zero x e n f = absurd (cc)
other-after nodes (suc i) node (Split a) bound (suc j) x e n f =
    append_left (slice_set nodes (suc i - 1) (worked node bound WasSplit)) (child (suc i) bound a Used ∷ child (suc i) bound a Unused ∷ []) j x (other_node nodes i (worked node bound WasSplit) (suc j) n ∙ f)
other-after nodes (suc i) node Stop bound (suc j) x e n f = other_node nodes i (worked node bound Stopped) (suc j) n ∙ f
other-after nodes (suc i) node (Dead why) bound (suc j) x e n f = other_node nodes i (worked node bound WasDead) (suc j) n ∙ f
other-after nodes (suc i) node Full bound (suc j) x e n f = other_node nodes i (worked node bound WasFull) (suc j) n ∙ f

-- the nodes that the other lanes hold aren't worked after an act
pub held-after : (nodes : List Node) (lanes : List (Option ℕ)) (lane v : ℕ) (node : Node) (act : Act) (bound : ℕ) → slice_get lanes lane ≡ Some (Some v) → node_of nodes v ≡ Some node → AreHeld nodes lanes → AreApart lanes
    → AreHeld (nodes_after nodes v node act bound) (slice_set lanes lane None)
held-after nodes lanes lane v node act bound here e held apart i w f = elim (set_either lanes lane None (Some v) here i (Some w) f) [
  | inl x ↦ absurd (let h = x.1 in cc)
  | inr x ↦
      let was = held i w x.1 in
      let other : w ≢ v = λ same. x.0 (apart i lane v (x.1 ∙ ap (λ (u : ℕ). Some (Some u)) same) here) in
      (was.0, other-after nodes v node act bound w was.0 e other was.1, was.2)
]
