use Rattle.layout_meaning.specs.Numbers.{IsEarlierStart}
use Rattle.layout_meaning.proofs.numbers.has_earlier_start.Given as goal

abbrev pub invariant-loop-j : goal.invariant-loop-j
invariant-loop-j l = ¬ (IsEarlierStart l.cables l.j l.p)
