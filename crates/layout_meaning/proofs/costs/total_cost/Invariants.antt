use Rattle.std.proofs.Common.{◌≡◌, ◌≤◌, ◌*◌, take}
use Rattle.std.specs.Prelude.{sum_by}
use Rattle.cable_definitions.specs.Arcs.{cost_of}
use Rattle.cable_definitions.specs.Walk.{load}
use Rattle.layout_meaning.proofs.costs.total_cost.Given as goal

abbrev pub invariant-loop-cable : goal.invariant-loop-cable
invariant-loop-cable l = record {
  bound : l.total ≤ 28400000000000000 * l.cable-index;
  total : l.total ≡ sum_by (λ c. cost_of l.flows.site c.from c.to c.grade (load l.flows.site l.flows.cables c.from)) (take l.cable-index l.flows.cables);
}
