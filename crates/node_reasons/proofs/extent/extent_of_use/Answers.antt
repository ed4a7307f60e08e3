use Rattle.std.proofs.Common.{arith, ◌∙◌, sym, subst}
use Rattle.std.proofs.lemmas.Int.{ints}
use Rattle.cable_definitions.specs.Choice.{AtMost, AtLeast}
use Rattle.node_reasons.specs.Extents.{IsExtremeUse}
use Rattle.node_reasons.proofs.RowExtents.{back, wider, least_up, least_down, greatest_up, greatest_down}
use Rattle.node_reasons.proofs.extent.extent_of_use.Goals as goal

pub returns-then-counts-ge0-clause-least : goal.returns-then-counts-ge0-clause-least
returns-then-counts-ge0-clause-least c =
    subst (IsExtremeUse AtMost c.args.counts.0 c.args.counts.1 c.args.low c.args.high)
    (sym (back c.value_at-at_low.result (wider c.value_at-at_low.result c.value_at-at_low.ensures.small) ∙ c.value_at-at_low.ensures.value))
    (least_up c.args.counts.0 c.args.counts.1 c.args.low c.args.high c.requires.order (omega (arith, ints)))

pub returns-then-counts-ge0-clause-greatest : goal.returns-then-counts-ge0-clause-greatest
returns-then-counts-ge0-clause-greatest c =
    subst (IsExtremeUse AtLeast c.args.counts.0 c.args.counts.1 c.args.low c.args.high)
    (sym (back c.value_at-at_high.result (wider c.value_at-at_high.result c.value_at-at_high.ensures.small) ∙ c.value_at-at_high.ensures.value))
    (greatest_up c.args.counts.0 c.args.counts.1 c.args.low c.args.high c.requires.order (omega (arith, ints)))

pub returns-clause-least : goal.returns-clause-least
returns-clause-least c =
    subst (IsExtremeUse AtMost c.args.counts.0 c.args.counts.1 c.args.low c.args.high)
    (sym (back c.value_at-at_high.result (wider c.value_at-at_high.result c.value_at-at_high.ensures.small) ∙ c.value_at-at_high.ensures.value))
    (least_down c.args.counts.0 c.args.counts.1 c.args.low c.args.high c.requires.order (omega (arith, ints)))

pub returns-clause-greatest : goal.returns-clause-greatest
returns-clause-greatest c =
    subst (IsExtremeUse AtLeast c.args.counts.0 c.args.counts.1 c.args.low c.args.high)
    (sym (back c.value_at-at_low.result (wider c.value_at-at_low.result c.value_at-at_low.ensures.small) ∙ c.value_at-at_low.ensures.value))
    (greatest_down c.args.counts.0 c.args.counts.1 c.args.low c.args.high c.requires.order (omega (arith, ints)))
