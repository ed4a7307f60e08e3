use Rattle.std.proofs.Common.{ap, map, sym}
use Rattle.std.specs.List.{concat}
use Rattle.cable_definitions.specs.Text.{pair_line}
use Rattle.cable_text.proofs.Writers.{wrote_part, wrote_more, written_as}
use Rattle.site_text.proofs.write.push_pairs.Goals as goal

pub returns-in_err-push_pair : goal.returns-in_err-push_pair
returns-in_err-push_pair g c =
    written_as (wrote_part (pair_line c.args.site.now) c.pairs-pair-items.result.now c.loop-pair.pair-index _ c.loop-pair-test.true c.from_residual.ensures.0 c.loop-pair.invariant c.in_err-push_pair.ensures)
    (ap (λ pairs. concat (map (pair_line c.args.site.now) pairs)) (sym c.pairs-pair-items.ensures.value))

pub loop-pair-preserved : goal.loop-pair-preserved
loop-pair-preserved g c =
    wrote_more (pair_line c.args.site.now) c.pairs-pair-items.result.now c.loop-pair.pair-index _ c.loop-pair-test.true c.loop-pair.invariant c.in_ok-push_pair.ensures
