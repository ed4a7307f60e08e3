use Rattle.std.proofs.Common.{◌≡◌, ◌-◌, length, arith, map, refl}
use Rattle.std.proofs.lemmas.List.{length-map}
use Rattle.branch_tree.specs.Nodes.{as_node}
use Rattle.branch_tree.proofs.Marking.{marked_first, marked_step, marked_last}
use Rattle.branch_tree.proofs.node.mark_decided.Goals as goal

pub loop-at-init : goal.loop-at-init
loop-at-init c = record {
  within = c.requires.within;
  count = refl;
  marks = λ a l. marked_first (map as_node c.args.nodes.now) c.args.node c.args.into.now a (c.requires.free a l);
}

pub mark_if_free-requires : goal.mark_if_free-requires
mark_if_free-requires c =
    let r = (c.requires.placed (c.loop-at.at - 1) (as_node c.stored_node-here.result) c.stored_node-here.ensures).within (omega arith) in
    omega (arith, r)

pub loop-at-preserved : goal.loop-at-preserved
loop-at-preserved c =
    let before = (c.requires.placed (c.loop-at.at - 1) (as_node c.stored_node-here.result) c.stored_node-here.ensures).parent_before in
    record {
      within = omega (arith, before);
      count = omega arith;
      marks = λ a l.
          marked_step (length c.args.into.now) (map as_node c.args.nodes.now) c.requires.placed c.args.node c.loop-at.at c.loop-at.into c.mark_if_free.new.into a (as_node c.stored_node-here.result)
          c.loop-at-test.true c.stored_node-here.ensures c.mark_if_free.ensures.here c.mark_if_free.ensures.elsewhere
          (c.loop-at.invariant.marks a (omega (arith, l, c.mark_if_free.ensures.count)));
    }

pub loop-at-smaller : goal.loop-at-smaller
loop-at-smaller c =
    let before = (c.requires.placed (c.loop-at.at - 1) (as_node c.stored_node-here.result) c.stored_node-here.ensures).parent_before in
    omega (arith, before)

pub returns : goal.returns
returns c = record {
  count = omega arith;
  marks = λ a l.
      let k : length (map as_node c.args.nodes.now) ≡ length c.args.nodes.now = length-map c.args.nodes.now as_node in
      marked_last (length c.args.into.now) (map as_node c.args.nodes.now) c.requires.placed c.args.node c.loop-at.at c.loop-at.into a c.loop-at-test.false (omega arith)
      (c.loop-at.invariant.marks a (omega arith));
}
