use Rattle.candidate_cables.specs.Tables.{AreNumbersBelow}
use Rattle.candidate_cables.proofs.tables.numbers_into.Given as goal

abbrev pub invariant-loop-number : goal.invariant-loop-number
invariant-loop-number l = AreNumbersBelow l.arcs l.q l.number l.numbers.items
