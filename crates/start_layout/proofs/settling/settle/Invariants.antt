use Rattle.std.proofs.Common.{◌≡◌}
use Rattle.cable_definitions.specs.Layout.{IsLegal, cost}
use Rattle.start_layout.proofs.Moving.{HasMoved}
use Rattle.start_layout.proofs.settling.settle.Given as goal

abbrev pub invariant-loop-arc : goal.invariant-loop-arc
invariant-loop-arc l = record {
  legal : IsLegal l.site l.layout;
  cost_is : l.cost ≡ cost l.site l.layout;
  moved : HasMoved l.site l.fn.layout l.layout;
}

abbrev pub decreases-loop-arc : goal.decreases-loop-arc
decreases-loop-arc l = l.cost
