use Rattle.std.proofs.Common.{◌≡◌, List, length, map, arith, ap, ◌∙◌, ◌+◌, ◌<◌, Some}
use Rattle.cable_definitions.specs.Tree.{Node, mark_in}
use Rattle.branch_tree.specs.State.{TreeState}
use Rattle.branch_tree.specs.Nodes.{as_node}
use Rattle.branch_tree.proofs.Marking.{marks_are}
use Rattle.branch_tree.proofs.tree.Tree.decisions.Goals as goal

pub returns : goal.returns
returns c = λ arcs e.
    let nodes = c.args.self.now.nodes in
    let same : map as_node c.as_slice.result.now ≡ nodes = ap (map as_node) c.as_slice.ensures.value ∙ ap (λ (t : TreeState). t.nodes) c.self.view_is in
    let count : c.self.inside.arcs ≡ c.args.self.now.arcs = ap (λ (t : TreeState). t.arcs) c.self.view_is in
    marks_are arcs (λ a. mark_in c.args.node nodes a c.args.node) 0 c.mark_decided.new.into (omega arith)
    (λ a l.
    let within : a < length c.free_all.new.into = omega (arith, l, c.mark_decided.ensures.count) in
    c.mark_decided.ensures.marks a within
    ∙ ap (λ (xs : List Node). Some (mark_in c.args.node xs a c.args.node)) same
    ∙ ap (λ k. Some (mark_in c.args.node nodes k c.args.node)) (let q : a ≡ 0 + a = omega arith in q))
