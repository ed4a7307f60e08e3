use Rattle.crossing_index.specs.Clashing.{AreClashingBelow}
use Rattle.crossing_index.proofs.scan.clashing_numbers.Given as goal

abbrev pub invariant-loop-number : goal.invariant-loop-number
invariant-loop-number l = AreClashingBelow l.site l.arcs l.arc l.number l.numbers.items
