use Rattle.std.proofs.Common.{below_more, refl, arith}
use Rattle.std.proofs.lemmas.Option.{slice_get_within}
use Rattle.site_model.proofs.Passed.{not_passed}
use Rattle.site_model.proofs.arcs.passes_none.Goals as goal

pub loop-r-preserved : goal.loop-r-preserved
loop-r-preserved c =
    let p = c.args in
    below_more _ _ c.loop-r.invariant (not_passed p.points.now p.from p.to c.loop-r.r p.a p.b c.index-points-r.result c.is_passed.result c.loop-r-test.true c.index-points-r.is c.is_passed.ensures c.if-is_passed.false)

pub returns : goal.returns
returns c = (λ _ r other is. c.loop-r.invariant r (omega (arith, slice_get_within c.args.points.now r other is, c.loop-r-test.false)) other is, λ _. refl)
