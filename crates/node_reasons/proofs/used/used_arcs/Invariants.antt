use Rattle.node_reasons.specs.Used.{AreUsedBelow, IsNextStart}
use Rattle.node_reasons.proofs.used.used_arcs.Given as goal

abbrev pub invariant-loop-number : goal.invariant-loop-number
invariant-loop-number l = record {
  gathered : AreUsedBelow l.arcs l.decisions l.number l.used;
  latest : IsNextStart l.arcs l.decisions l.number l.used l.latest.arc l.latest.past_start;
}
