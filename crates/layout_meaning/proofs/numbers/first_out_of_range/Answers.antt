use Rattle.std.proofs.Common.{arith, below_more}
use Rattle.std.proofs.lemmas.Option.{slice_get-get_or}
use Rattle.cable_definitions.specs.Layout.{KeepsRange}
use Rattle.layout_meaning.proofs.Places.{at_each_place}
use Rattle.layout_meaning.proofs.Numbering.{range_here, range_past}
use Rattle.layout_meaning.proofs.numbers.first_out_of_range.Goals as goal

pub loop-place-preserved : goal.loop-place-preserved
loop-place-preserved c =
    below_more _ _ c.loop-place.invariant (range_here c.args.site.now c.args.cables.now c.loop-place.place _ (slice_get-get_or c.args.cables.now c.loop-place.place _ c.loop-place-test.true) (c.has_numbers_of.ensures.0 c.if-not-has_numbers_of.false))

pub returns-clause-none : goal.returns-clause-none
returns-clause-none c = at_each_place (KeepsRange c.args.site.now c.args.cables.now) c.loop-place.place c.loop-place.invariant (λ i h. range_past c.args.site.now c.args.cables.now i (omega (arith, h, c.loop-place-test.false)))
