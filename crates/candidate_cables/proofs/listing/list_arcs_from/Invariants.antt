use Rattle.candidate_cables.specs.Listing.{AreArcsBefore}
use Rattle.candidate_cables.proofs.listing.list_arcs_from.Given as goal

abbrev pub invariant-loop-to : goal.invariant-loop-to
invariant-loop-to l = AreArcsBefore l.site l.from l.to l.arcs.items
