use Rattle.std.proofs.Common.{◌≡◌, ℕ, ◌<◌}
use Rattle.layout_meaning.specs.Joining.{IsFreeArc, NeverGrown}
use Rattle.start_layout.proofs.growing.join_turbine.Given as goal

abbrev pub invariant-loop-to : goal.invariant-loop-to
invariant-loop-to l = record {
  same : l.part ≡ l.fn.part;
  refused : (q : ℕ) → q < l.to → IsFreeArc l.part.site l.part.cables l.turbine q → NeverGrown l.part.site l.part.cables l.turbine q;
}
