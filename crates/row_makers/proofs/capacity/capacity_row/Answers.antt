use Rattle.std.proofs.Common.{arith, subst, ◌∙◌}
use Rattle.row_makers.specs.Sums.{SharedArcs}
use Rattle.row_makers.specs.Most.{IsMost}
use Rattle.row_makers.proofs.Mosts.{made-violated}
use Rattle.row_makers.proofs.capacity.capacity_row.Goals as goal

pub returns-clause-cut : goal.returns-clause-cut
returns-clause-cut c =
    let s = c.args.site.now in
    let most = c.most_missing-most.result in
    let is = subst (λ (v : SharedArcs). IsMost s v.arcs v.shares most) c.in_ok-sums.ensures c.most_missing-most.ensures.is_one in
    made-violated s c.args.arcs.now c.args.shares.now most c.in_ok-new.field-0 c.points-points.ensures.valid c.requires.arcs is (omega (arith, c.if-most-eq0.false)) c.in_ok-new.ensures.kind
    ((c.in_ok-new.ensures.members ∙ c.as_slice.ensures.value) ∙ c.in_ok-members.ensures)
