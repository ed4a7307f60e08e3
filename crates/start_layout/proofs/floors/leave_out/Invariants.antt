use Rattle.std.proofs.Common.{◌≡◌, ◌≤◌, length, take}
use Rattle.start_layout.specs.Floors.{without}
use Rattle.start_layout.proofs.floors.leave_out.Given as goal

abbrev pub invariant-loop-cable : goal.invariant-loop-cable
invariant-loop-cable l = record {
  count : length l.into ≤ l.cable-index;
  left : l.into ≡ without l.start (take l.cable-index l.cables);
}
