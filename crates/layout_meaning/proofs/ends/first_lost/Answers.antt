use Rattle.std.proofs.Common.{arith, ap, length}
use Rattle.cable_definitions.specs.Layout.{KeepsEnd}
use Rattle.layout_meaning.proofs.Places.{at_each_place}
use Rattle.layout_meaning.proofs.Ending.{end_past}
use Rattle.layout_meaning.proofs.ends.first_lost.Goals as goal

pub returns-clause-none : goal.returns-clause-none
returns-clause-none c =
    let e = ap length c.points.ensures.value in
    at_each_place (KeepsEnd c.args.site.now c.args.cables.now) c.loop-p.p c.loop-p.invariant
    (λ p h. end_past c.args.site.now c.args.cables.now p c.requires.range (omega (arith, e)))
