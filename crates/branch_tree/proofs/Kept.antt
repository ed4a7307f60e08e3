-- Kept nodes by their numbers, and what acts leave of them.
use Rattle.std.proofs.Common.{◌≡◌, ℕ, zero, suc, ◌+◌, ◌-◌, ◌^◌, ◌<◌, ◌≤◌, List, [], ◌∷◌, ◌++◌, length, map, get_or, Some, inl, inr, arith, refl, sym, ap, ◌∙◌, subst}
use Rattle.std.specs.Prelude.{slice_get, slice_set}
use Rattle.std.specs.Option.{option_map}
use Rattle.std.proofs.lemmas.List.{map-append, append_assoc, length-set}
use Rattle.std.proofs.lemmas.Option.{slice_get-map, slice_get-get_or, slice_get_within}
use Rattle.cable_definitions.specs.declared.row.Mark.TheVariants.{Used, Unused}
use Rattle.cable_definitions.specs.declared.row.Act.{Act}
use Rattle.cable_definitions.specs.declared.row.Act.TheVariants.{Split, Stop, Dead, Full}
use Rattle.cable_definitions.specs.Tree.{Node, node_of, worked, child, Status, WasSplit, Stopped, WasDead, WasFull}
use Rattle.proof_laws.proofs.Boxes.{set_either, append_either}
use Rattle.branch_tree.specs.declared.node.TreeNode.{TreeNode}
use Rattle.branch_tree.specs.Nodes.{as_node, IsPlacedNode, ArePlaced}
use Rattle.branch_tree.specs.State.{nodes_after, status_after, ActIsWithin}

-- a kept node by its number
pub node_of-kept : (xs : List TreeNode) (n : ℕ) (d : TreeNode) → 1 ≤ n → n ≤ length xs → node_of (map as_node xs) n ≡ Some (as_node (get_or xs (n - 1) d))
node_of-kept xs zero d h l = absurd (omega arith)
node_of-kept xs (suc v) d h l =
    slice_get-map as_node xs v
    ∙ ap (option_map as_node) (slice_get-get_or xs v d (omega arith))
    ∙ ap (λ k. Some (as_node (get_or xs k d))) (let q : v ≡ suc v - 1 = omega arith in q)

-- a write to a list that is seen through a function
pub map-slice_set : {X Y : Type 0} → (f : X → Y) (xs : List X) (i : ℕ) (x : X) → map f (slice_set xs i x) ≡ slice_set (map f xs) i (f x)
map-slice_set f [] i x = refl
map-slice_set f (y ∷ ys) zero x = refl
map-slice_set f (y ∷ ys) (suc i) x = ap (λ zs. f y ∷ zs) (map-slice_set f ys i x)

-- a kept node by its place
pub kept_at : (xs : List TreeNode) (i : ℕ) (d : TreeNode) → i < length xs → slice_get (map as_node xs) i ≡ Some (as_node (get_or xs i d))
kept_at xs i d h = slice_get-map as_node xs i ∙ ap (option_map as_node) (slice_get-get_or xs i d h)

-- a list that was worked at one node, with its status as the act gives it
pub worked_at : (xs : List TreeNode) (v : ℕ) (old new : TreeNode) (n : Node) (act : Act) (bound : ℕ) → 1 ≤ v → slice_get (map as_node xs) (v - 1) ≡ Some (as_node old)
    → as_node new ≡ worked (as_node old) bound (status_after act) → node_of (map as_node xs) v ≡ Some n
    → map as_node (slice_set xs (v - 1) new) ≡ slice_set (map as_node xs) (v - 1) (worked n bound (status_after act))
worked_at xs zero old new n act bound h e w f = absurd (omega arith)
worked_at xs (suc v) old new n act bound h e w f =
    let g : slice_get (map as_node xs) v ≡ Some (as_node old) = ap (slice_get (map as_node xs)) (let q : v ≡ suc v - 1 = omega arith in q) ∙ e in
    let same : as_node old ≡ n = cc in
    map-slice_set as_node xs (suc v - 1) new ∙ ap (slice_set (map as_node xs) (suc v - 1)) (w ∙ ap (λ (m : Node). worked m bound (status_after act)) same)

-- an act that is no split makes no node
pub nodes_after-no_split : (nodes : List Node) (v : ℕ) (n : Node) (act : Act) (bound : ℕ) → ((a : ℕ) → ¬ (act ≡ Split a)) → slice_set nodes (v - 1) (worked n bound (status_after act)) ≡ nodes_after nodes v n act bound
nodes_after-no_split nodes v n (Split a) bound h = absurd (h a refl)
nodes_after-no_split nodes v n Stop bound h = refl
nodes_after-no_split nodes v n (Dead why) bound h = refl
nodes_after-no_split nodes v n Full bound h = refl

-- a split makes two nodes at the end
pub nodes_after-split : (nodes : List TreeNode) (old : List Node) (v : ℕ) (n : Node) (act : Act) (a bound : ℕ) (used unused : TreeNode) → act ≡ Split a
    → map as_node nodes ≡ slice_set old (v - 1) (worked n bound (status_after act)) → as_node used ≡ child v bound a Used → as_node unused ≡ child v bound a Unused
    → map as_node ((nodes ++ used ∷ []) ++ unused ∷ []) ≡ nodes_after old v n act bound
nodes_after-split nodes old v n act a bound used unused s e f g =
    map-append as_node (nodes ++ used ∷ []) (unused ∷ [])
    ∙ ap (λ (xs : List Node). xs ++ as_node unused ∷ []) (map-append as_node nodes (used ∷ []))
    ∙ append_assoc (map as_node nodes) (as_node used ∷ []) (as_node unused ∷ [])
    ∙ (λ i. e i ++ f i ∷ g i ∷ [])
    ∙ ap (λ (b : Act). slice_set old (v - 1) (worked n bound (status_after b)) ++ child v bound a Used ∷ child v bound a Unused ∷ []) s
    ∙ ap (λ (b : Act). nodes_after old v n b bound) (sym s)

-- one node changed keeps all nodes in their places
placed-set : (arcs : ℕ) (nodes : List Node) (i : ℕ) (n : Node) (bound : ℕ) (status : Status) → ArePlaced arcs nodes → slice_get nodes i ≡ Some n → bound < 2 ^ 100
    → ArePlaced arcs (slice_set nodes i (worked n bound status))
placed-set arcs nodes i n bound status placed e b j x f =
    elim (set_either nodes i (worked n bound status) n e j x f) [
      | inl r ↦ subst (λ (y : Node). IsPlacedNode arcs j y) r.1 (subst (λ (k : ℕ). IsPlacedNode arcs k (worked n bound status)) (sym r.0) here)
      | inr r ↦ placed j x r.1
    ]
  where
    here : IsPlacedNode arcs i (worked n bound status)
    here =
        let p = placed i n e in
        record { parent_before = p.parent_before; within = p.within; decides = p.decides; root_free = p.root_free; small = b }

-- two children after all nodes
placed-children : (arcs : ℕ) (nodes : List Node) (v bound a : ℕ) → ArePlaced arcs nodes → 1 ≤ v → v ≤ length nodes → bound < 2 ^ 100 → a < arcs
    → ArePlaced arcs (nodes ++ child v bound a Used ∷ child v bound a Unused ∷ [])
placed-children arcs nodes v bound a placed h l b w i x e =
    elim (append_either nodes (child v bound a Used ∷ child v bound a Unused ∷ []) i x e) [
      | inl f ↦ placed i x f
      | inr r ↦ by_place r.0 r.1 r.2
    ]
  where
    by_place : (j : ℕ) → i ≡ length nodes + j → slice_get (child v bound a Used ∷ child v bound a Unused ∷ []) j ≡ Some x → IsPlacedNode arcs i x
    by_place zero q f =
        let same : child v bound a Used ≡ x = cc in
        subst (λ (y : Node). IsPlacedNode arcs i y) same
        (record { parent_before = omega arith; within = λ _. w; decides = λ z f. absurd (cc); root_free = λ z. absurd (omega arith); small = b })
    by_place (suc zero) q f =
        let same : child v bound a Unused ≡ x = cc in
        subst (λ (y : Node). IsPlacedNode arcs i y) same
        (record { parent_before = omega arith; within = λ _. w; decides = λ z f. absurd (cc); root_free = λ z. absurd (omega arith); small = b })
    by_place (suc (suc j)) q f = absurd (cc)

-- an act keeps all nodes in their places
pub placed-after : (arcs : ℕ) (nodes : List Node) (v : ℕ) (n : Node) (act : Act) (bound : ℕ) → ArePlaced arcs nodes → node_of nodes v ≡ Some n → bound < 2 ^ 100 → ActIsWithin arcs act
    → ArePlaced arcs (nodes_after nodes v n act bound)
placed-after arcs nodes zero n act bound placed e b w = absurd (cc)
placed-after arcs nodes (suc v) n act bound placed e b w = by_act act w
  where
    place : slice_get nodes (suc v - 1) ≡ Some n
    place = ap (slice_get nodes) (let q : suc v - 1 ≡ v = omega arith in q) ∙ e

    by_act : (some : Act) → ActIsWithin arcs some → ArePlaced arcs (nodes_after nodes (suc v) n some bound)
    by_act (Split a) k =
        let l = slice_get_within nodes v n e in
        let same = length-set nodes (suc v - 1) (worked n bound WasSplit) in
        placed-children arcs (slice_set nodes (suc v - 1) (worked n bound WasSplit)) (suc v) bound a (placed-set arcs nodes (suc v - 1) n bound WasSplit placed place b) (omega arith) (omega (arith, l, same)) b (k a refl)
    by_act Stop k = placed-set arcs nodes (suc v - 1) n bound Stopped placed place b
    by_act (Dead why) k = placed-set arcs nodes (suc v - 1) n bound WasDead placed place b
    by_act Full k = placed-set arcs nodes (suc v - 1) n bound WasFull placed place b
