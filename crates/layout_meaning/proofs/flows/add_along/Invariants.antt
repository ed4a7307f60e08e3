use Rattle.std.proofs.Common.{◌≡◌, ◌-◌, ◌<◌, ℕ, false}
use Rattle.std.specs.Prelude.{◌||◌}
use Rattle.std.specs.List.{slice_index_or}
use Rattle.cable_definitions.specs.Walk.{passes, most_steps}
use Rattle.layout_meaning.specs.Loads.{IsTally}
use Rattle.layout_meaning.proofs.Walking.{comes_to}
use Rattle.layout_meaning.proofs.flows.add_along.Given as goal

abbrev pub invariant-loop-step : goal.invariant-loop-step
invariant-loop-step l = record {
  tally : IsTally l.initial.loads l.power l.met l.loads;
  passed : (p : ℕ) → p < 256 → passes l.cables p l.t ≡ (slice_index_or l.met p false || comes_to l.cables p (most_steps - l.step) l.at);
}
