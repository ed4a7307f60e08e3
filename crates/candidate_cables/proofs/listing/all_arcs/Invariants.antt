use Rattle.candidate_cables.specs.Listing.{AreArcsBefore}
use Rattle.candidate_cables.proofs.listing.all_arcs.Given as goal

abbrev pub invariant-loop-from : goal.invariant-loop-from
invariant-loop-from l = AreArcsBefore l.site l.from 0 l.arcs.items
