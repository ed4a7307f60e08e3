use Rattle.std.proofs.Common.{◌≡◌, take}
use Rattle.plain_planner.proofs.layout_of.Given as goal

abbrev pub invariant-loop-cable : goal.invariant-loop-cable
invariant-loop-cable l = l.layout ≡ take l.cable-index l.cables
