use Rattle.std.proofs.Common.{arith, below_more, ap, length, sym, ◌∙◌}
use Rattle.cable_definitions.specs.Layout.{KeepsBend}
use Rattle.cable_definitions.specs.Arcs.{is_bend}
use Rattle.layout_meaning.proofs.Places.{at_each_place}
use Rattle.layout_meaning.proofs.Ending.{bend_here, bend_other, bend_past}
use Rattle.layout_meaning.proofs.ends.first_open_bend.Goals as goal
use Rattle.layout_meaning.proofs.ends.first_open_bend.Goals.{then-is_bend+else-starting-gt1+else-starting-end_count, else-is_bend}

pub loop-p-preserved : goal.loop-p-preserved
loop-p-preserved c = below_more _ _ c.loop-p.invariant (elim c.if-is_bend.branch [
  | then-is_bend+else-starting-gt1+else-starting-end_count w ↦ bend_here c.args.site.now c.args.cables.now c.loop-p.p (cc) (omega arith)
  | else-is_bend w ↦ bend_other c.args.site.now c.args.cables.now c.loop-p.p (ap is_bend (sym c.kind.ensures.kind) ∙ sym c.is_bend.ensures.bend ∙ w.if-is_bend.false)
])

pub returns-clause-none : goal.returns-clause-none
returns-clause-none c =
    let e = ap length c.points.ensures.value in
    at_each_place (KeepsBend c.args.site.now c.args.cables.now) c.loop-p.p c.loop-p.invariant
    (λ p h. bend_past c.args.site.now c.args.cables.now p (omega (arith, e)))
