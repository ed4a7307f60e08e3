use Rattle.std.proofs.Common.{◌≡◌, ◌∷◌, [], ◌++◌, ◌-◌, ◌≤◌, ℕ, List, Some, ap, sym, ◌∙◌, map}
use Rattle.std.specs.Prelude.{slice_get, slice_set}
use Rattle.cable_definitions.specs.declared.row.Act.{Act}
use Rattle.cable_definitions.specs.Tree.{Node, worked, node_of}
use Rattle.branch_tree.specs.declared.node.TreeNode.{TreeNode}
use Rattle.branch_tree.specs.declared.node.NodeStatus.{NodeStatus}
use Rattle.branch_tree.specs.Nodes.{as_node, as_status}
use Rattle.branch_tree.specs.State.{status_after}
use Rattle.branch_tree.proofs.Kept.{worked_at, nodes_after-no_split, nodes_after-split}
use Rattle.branch_tree.proofs.node.do_act.Goals as goal

-- a node after its work
abbrev after : TreeNode → ℕ → NodeStatus → TreeNode
after old bound status = record { parent = old.parent; arc = old.arc; mark = old.mark; bound = bound; status = status }

-- the list after the work
after_work : (xs ys : List TreeNode) (v : ℕ) (old : TreeNode) (status : NodeStatus) (n : Node) (act : Act) (bound : ℕ) → ys ≡ xs → 1 ≤ v
    → slice_get (map as_node ys) (v - 1) ≡ Some (as_node old) → as_status status ≡ status_after act → node_of (map as_node xs) v ≡ Some n
    → map as_node (slice_set xs (v - 1) (after old bound status)) ≡ slice_set (map as_node xs) (v - 1) (worked n bound (status_after act))
after_work xs ys v old status n act bound q h e s f =
    worked_at xs v old (after old bound status) n act bound h (ap (λ (zs : List TreeNode). slice_get (map as_node zs) (v - 1)) (sym q) ∙ e) (ap (λ t. worked (as_node old) bound t) s) f

pub returns-in-Split-clause-nodes : goal.returns-in-Split-clause-nodes
returns-in-Split-clause-nodes c = λ n f.
    let r = c.stored_node-old.result in
    let set = slice_set c.args.nodes.now.items (c.args.node - 1) (after r c.args.bound c.status_after.result) in
    ap (map as_node) (c.push_reserved-in-Split.ensures.items ∙ ap (λ (xs : List TreeNode). xs ++ c.child-in-Split.result ∷ []) c.push_reserved.ensures.items)
    ∙ nodes_after-split set (map as_node c.args.nodes.now.items) c.args.node n c.args.act c.in-Split.arc c.args.bound c.child.result c.child-in-Split.result c.in-Split.is
    (after_work c.args.nodes.now.items c.as_slice.result.now c.args.node r c.status_after.result n c.args.act c.args.bound c.as_slice.ensures.value c.requires.made c.stored_node-old.ensures c.status_after.ensures f)
    c.child.ensures c.child-in-Split.ensures

pub returns-in_default-clause-nodes : goal.returns-in_default-clause-nodes
returns-in_default-clause-nodes c = λ n f.
    after_work c.args.nodes.now.items c.as_slice.result.now c.args.node c.stored_node-old.result c.status_after.result n c.args.act c.args.bound c.as_slice.ensures.value c.requires.made c.stored_node-old.ensures c.status_after.ensures f
    ∙ nodes_after-no_split (map as_node c.args.nodes.now.items) c.args.node n c.args.act c.args.bound c.in_default.not-Split
