use Rattle.std.proofs.Common.{◌≡◌, ◌<◌, ◌^◌, ◌+◌, ℕ, List, length, map, nat_abs, Some, ℤ, to_z, of_z, FitsSigned, arith, refl, sym, ap, ◌∙◌, subst}
use Rattle.std.specs.Int.{w128}
use Rattle.std.proofs.lemmas.Int.{ints, to_z-of_z}
use Rattle.std.proofs.lemmas.List.{length-map}
use Rattle.std.proofs.lemmas.Bool.Decides.{nat_tests}
use Rattle.cable_definitions.specs.declared.row.Act.{Act}
use Rattle.cable_definitions.specs.Tree.{Node, node_of}
use Rattle.branch_tree.specs.declared.node.TreeNode.{TreeNode}
use Rattle.branch_tree.specs.State.{TreeState, tree_after, nodes_after, ActIsWithin}
use Rattle.branch_tree.specs.Nodes.{as_node, ArePlaced}
use Rattle.branch_tree.proofs.Kept.{placed-after}
use Rattle.branch_tree.proofs.tree.Tree.work.Goals as goal

-- the nodes after the act, at the bound itself
nodes_are : (new old slice : List TreeNode) (v : ℕ) (made : TreeNode) (act : Act) (bound : ℤ) → slice ≡ old → node_of (map as_node slice) v ≡ Some (as_node made) → FitsSigned w128 bound
    → ((n : Node) → node_of (map as_node old) v ≡ Some n → map as_node new ≡ nodes_after (map as_node old) v n act (nat_abs (to_z w128 (of_z w128 bound))))
    → map as_node new ≡ nodes_after (map as_node old) v (as_node made) act (nat_abs bound)
nodes_are new old slice v made act bound s e f h =
    h (as_node made) (ap (λ (xs : List TreeNode). node_of (map as_node xs) v) (sym s) ∙ e)
    ∙ ap (λ z. nodes_after (map as_node old) v (as_node made) act (nat_abs z)) (to_z-of_z w128 bound f)

pub invariant_of-self : goal.invariant_of-self
invariant_of-self c =
    let old = c.self.inside.nodes.items in
    let made : node_of (map as_node old) c.args.node ≡ Some (as_node c.in-Some.made) = ap (λ (xs : List TreeNode). node_of (map as_node xs) c.args.node) (sym c.as_slice.ensures.value) ∙ c.in-Some.ensures in
    let after = nodes_are c.do_act.new.nodes.items old c.as_slice.result.now c.args.node c.in-Some.made c.args.act c.args.bound c.as_slice.ensures.value c.in-Some.ensures (omega (arith, ints)) c.do_act.ensures.nodes in
    let small : nat_abs c.args.bound < 2 ^ 100 = omega (arith, ints) in
    let arcs : c.self.inside.arcs ≡ c.args.self.now.arcs = ap (λ (t : TreeState). t.arcs) c.self.view_is in
    let within : ActIsWithin c.self.inside.arcs c.args.act = λ a e. let l = c.requires.within a e in omega arith in
    let placed = placed-after c.self.inside.arcs (map as_node old) c.args.node (as_node c.in-Some.made) c.args.act (nat_abs c.args.bound) c.self.invariant.placed made small within in
    let count : length (map as_node c.do_act.new.nodes.items) ≡ length c.do_act.new.nodes.items = length-map c.do_act.new.nodes.items as_node in
    let before : length (map as_node old) ≡ length old = length-map old as_node in
    record {
      few_works = grind (arith, nat_tests);
      most_works = c.self.invariant.most_works;
      most_arcs = c.self.invariant.most_arcs;
      few_nodes = omega arith;
      enough_room = omega arith;
      placed = subst (ArePlaced c.self.inside.arcs) (sym after) placed;
    }

pub returns-clause-ok : goal.returns-clause-ok
returns-clause-ok c =
    let old = c.self.inside.nodes.items in
    let inside : node_of (map as_node old) c.args.node ≡ Some (as_node c.in-Some.made) = ap (λ (xs : List TreeNode). node_of (map as_node xs) c.args.node) (sym c.as_slice.ensures.value) ∙ c.in-Some.ensures in
    let made : node_of c.args.self.now.nodes c.args.node ≡ Some (as_node c.in-Some.made) = ap (λ (t : TreeState). node_of t.nodes c.args.node) (sym c.self.view_is) ∙ inside in
    let after = nodes_are c.do_act.new.nodes.items old c.as_slice.result.now c.args.node c.in-Some.made c.args.act c.args.bound c.as_slice.ensures.value c.in-Some.ensures (omega (arith, ints)) c.do_act.ensures.nodes in
    let fields : TreeState = record { budget = c.self.inside.budget; arcs = c.self.inside.arcs; nodes = map as_node old; works = c.self.inside.works } in (
      as_node c.in-Some.made,
      made,
      c.if-not-is_unworked.ensures.0 refl,
      ap (λ (xs : List Node). let t : TreeState = record { budget = c.self.inside.budget; arcs = c.self.inside.arcs; nodes = xs; works = c.self.inside.works + 1 } in t) after
          ∙ ap (λ (t : TreeState). tree_after t c.args.node (as_node c.in-Some.made) c.args.act (nat_abs c.args.bound)) c.self.view_is,
    )
