use Rattle.std.proofs.Common.{ℤ, Some}
use Rattle.cable_definitions.specs.Items.{AnObstacle}
use Rattle.site_text.proofs.Changed.{BuilderAnswers, IsTold, answered, told_number}
use Rattle.site_text.proofs.add.add_obstacle.Goals as goal

pub returns : goal.returns
returns c =
    let b = c.add_obstacle-outcome in
    let d = c.args.builder.now in
    let e = b.new.self in
    let P : ℤ → Type 0 = λ z. BuilderAnswers b.result d (AnObstacle (Some z)) e in
    let k : IsTold c.told.result c.args.corners = record { value = c.told.ensures.value; least = c.told.ensures.least; most = c.told.ensures.most } in
    let known = told_number P c.told.result c.args.corners k (record { good = b.ensures.good; adds = b.ensures.adds; refused = b.ensures.refused }) in
    answered b.result c.are_spelled.result c.answer.result d e (AnObstacle c.args.corners) c.answer.ensures c.are_spelled.ensures known
