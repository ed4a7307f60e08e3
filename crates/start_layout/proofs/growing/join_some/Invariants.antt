use Rattle.std.proofs.Common.{◌≡◌, ℕ, ◌<◌}
use Rattle.cable_definitions.specs.Part.{IsBlocked}
use Rattle.layout_meaning.specs.Joining.{IsUnjoined}
use Rattle.start_layout.proofs.growing.join_some.Given as goal

abbrev pub invariant-loop-turbine : goal.invariant-loop-turbine
invariant-loop-turbine l = record {
  same : l.part ≡ l.fn.part;
  blocked : (p : ℕ) → p < l.turbine → IsUnjoined l.part.site l.part.cables p → IsBlocked l.part.site l.part.cables p;
}
