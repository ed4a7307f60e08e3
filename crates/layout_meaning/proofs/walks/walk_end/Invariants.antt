use Rattle.std.proofs.Common.{◌≡◌, ◌-◌}
use Rattle.cable_definitions.specs.Walk.{walk_end, most_steps}
use Rattle.layout_meaning.proofs.walks.walk_end.Given as goal

abbrev pub invariant-loop-step : goal.invariant-loop-step
invariant-loop-step l = walk_end most_steps l.cables l.p ≡ walk_end (most_steps - l.step) l.cables l.at
