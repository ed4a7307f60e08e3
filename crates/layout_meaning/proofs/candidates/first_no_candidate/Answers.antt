use Rattle.std.proofs.Common.{arith, below_more}
use Rattle.std.proofs.lemmas.Bool.{iff_false}
use Rattle.cable_definitions.specs.Layout.{KeepsCandidate}
use Rattle.std.proofs.lemmas.Option.{slice_get-get_or}
use Rattle.layout_meaning.proofs.Places.{at_each_place}
use Rattle.layout_meaning.proofs.Costing.{candidate_here, candidate_past}
use Rattle.layout_meaning.proofs.candidates.first_no_candidate.Goals as goal

pub is_candidate-requires-clause-from : goal.is_candidate-requires-clause-from
is_candidate-requires-clause-from c = (c.requires c.loop-i.i).from _ (slice_get-get_or c.args.cables.now c.loop-i.i _ c.loop-i-test.true)

pub is_candidate-requires-clause-to : goal.is_candidate-requires-clause-to
is_candidate-requires-clause-to c = (c.requires c.loop-i.i).to _ (slice_get-get_or c.args.cables.now c.loop-i.i _ c.loop-i-test.true)

pub returns-then-not-is_candidate-clause-first : goal.returns-then-not-is_candidate-clause-first
returns-then-not-is_candidate-clause-first c =
    let e = slice_get-get_or c.args.cables.now c.loop-i.i (record { from = 0; to = 0; grade = 0 }) c.loop-i-test.true in
    record {
      place = c.loop-i.i;
      cable = e;
      first = record { broken = λ kept. iff_false c.is_candidate.ensures c.if-not-is_candidate.true (kept _ e); earlier = c.loop-i.invariant };
    }

pub loop-i-preserved : goal.loop-i-preserved
loop-i-preserved c = below_more _ _ c.loop-i.invariant
    (candidate_here c.args.site.now c.args.cables.now c.loop-i.i _ (slice_get-get_or c.args.cables.now c.loop-i.i (record { from = 0; to = 0; grade = 0 }) c.loop-i-test.true) (c.is_candidate.ensures.0 c.if-not-is_candidate.false))

pub returns-clause-none : goal.returns-clause-none
returns-clause-none c = at_each_place (KeepsCandidate c.args.site.now c.args.cables.now) c.loop-i.i c.loop-i.invariant (λ i h. candidate_past c.args.site.now c.args.cables.now i (omega arith))
