use Rattle.std.proofs.Common.{refl}
use Rattle.std.proofs.lemmas.Bool.{false≢true}
use Rattle.site_model.proofs.Passed.{clear_more, not_clear, clear_end, ↔_then, denied}
use Rattle.site_model.proofs.arcs.is_clear_from.Goals as goal

pub loop-corner-preserved : goal.loop-corner-preserved
loop-corner-preserved c =
    ↔_then c.loop-corner.invariant (clear_more c.loop-corner.last c.corner-item.result c.args.a c.args.b c.args.corners.now c.loop-corner.corner-index c.loop-corner-test.true c.corner-item.is (denied c.meets.result c.meets.ensures c.if-meets.false))

pub returns-then-meets : goal.returns-then-meets
returns-then-meets c =
    (λ e. absurd (false≢true e), λ h. absurd (not_clear c.loop-corner.last c.corner-item.result c.args.a c.args.b c.args.corners.now c.loop-corner.corner-index c.loop-corner-test.true c.corner-item.is (c.meets.ensures.0 c.if-meets.true) (c.loop-corner.invariant.0 h)))

pub returns : goal.returns
returns c = (λ _. c.loop-corner.invariant.1 (clear_end c.loop-corner.last c.args.a c.args.b c.args.corners.now c.loop-corner.corner-index c.loop-corner-test.false), λ _. refl)
