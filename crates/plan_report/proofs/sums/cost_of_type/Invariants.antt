use Rattle.std.proofs.Common.{◌≡◌, ◌≤◌, ◌*◌, take}
use Rattle.std.specs.Prelude.{sum_by}
use Rattle.cable_definitions.specs.Report.{cable_cost, of_type}
use Rattle.plan_report.proofs.sums.cost_of_type.Given as goal

abbrev pub invariant-loop-cable : goal.invariant-loop-cable
invariant-loop-cable l = record {
  bound : l.total ≤ 28400000000000000 * l.cable-index;
  total : l.total ≡ sum_by (cable_cost l.flows.site l.flows.cables) (of_type (take l.cable-index l.cables) l.grade);
}
