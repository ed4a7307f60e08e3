use Rattle.std.proofs.Common.{arith, ap, length, below_more}
use Rattle.layout_meaning.proofs.Joinings.{candidate_to}
use Rattle.layout_meaning.proofs.part.can_join.Goals as goal

pub loop-to-preserved : goal.loop-to-preserved
loop-to-preserved c = below_more _ _ c.loop-to.invariant (λ typed joins. absurd (let t = c.can_add.ensures.1 (typed, joins) in cc))

pub returns : goal.returns
returns c = (
  λ t. absurd (cc),
  λ j.
      let e = ap length c.points-count.ensures.value in
      let within = candidate_to c.args.site.now c.args.from j.0 j.2.free.candidate in
      absurd (c.loop-to.invariant j.0 (omega (arith, e, within)) j.1 j.2),
)
