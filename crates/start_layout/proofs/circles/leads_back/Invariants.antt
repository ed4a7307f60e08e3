use Rattle.std.proofs.Common.{◌≡◌, ◌-◌}
use Rattle.cable_definitions.specs.Walk.{passes, most_steps}
use Rattle.layout_meaning.proofs.Walking.{comes_to}
use Rattle.start_layout.proofs.circles.leads_back.Given as goal

abbrev pub invariant-loop-step : goal.invariant-loop-step
invariant-loop-step l = passes l.cables l.arc.from l.arc.to ≡ comes_to l.cables l.arc.from (most_steps - l.step) l.at
