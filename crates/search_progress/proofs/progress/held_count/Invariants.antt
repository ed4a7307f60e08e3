use Rattle.std.proofs.Common.{◌≡◌, ◌≤◌, take, count_by}
use Rattle.cable_definitions.specs.Core.{is_holding}
use Rattle.search_progress.proofs.progress.held_count.Given as goal

abbrev pub invariant-loop-lane : goal.invariant-loop-lane
invariant-loop-lane l = record {
  counted : l.count ≡ count_by is_holding (take l.lane-index l.lanes);
  most : l.count ≤ l.lane-index;
}
