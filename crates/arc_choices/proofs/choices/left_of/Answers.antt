use Rattle.std.proofs.Common.{◌∙◌, to_z, of_z}
use Rattle.std.specs.Int.{w128}
use Rattle.arc_choices.proofs.LeastUses.{left_read, left_fits, left_small, kept}
use Rattle.arc_choices.proofs.choices.left_of.Goals as goal

pub overflow_sub-result-2 : goal.overflow_sub-result-2
overflow_sub-result-2 c =
    let r = c.requires in
    left_fits c.args.cost c.args.load c.args.on_use c.args.on_load _ (left_read c.args.cost c.args.load c.args.on_use c.args.on_load c.from.result c.from-2.result c.from.ensures c.from-2.ensures r.cost r.load r.on_use r.on_load) r.cost r.load r.on_use r.on_load

pub returns : goal.returns
returns c =
    let r = c.requires in
    let read = left_read c.args.cost c.args.load c.args.on_use c.args.on_load c.from.result c.from-2.result c.from.ensures c.from-2.ensures r.cost r.load r.on_use r.on_load in
    (λ i. to_z w128 (of_z w128 (read i))) ∙ kept _ (left_small c.args.cost c.args.load c.args.on_use c.args.on_load r.cost r.load r.on_use r.on_load)
