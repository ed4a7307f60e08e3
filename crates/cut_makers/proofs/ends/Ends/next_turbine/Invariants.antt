use Rattle.std.proofs.Common.{◌≡◌, ℕ, ◌<◌, true}
use Rattle.std.specs.Prelude.{IfSome, IfNone}
use Rattle.cable_definitions.specs.Arcs.{kind_of, is_turbine}
use Rattle.cut_makers.specs.Ends.{is_end, IsWaiting}
use Rattle.cut_makers.proofs.ends.Ends.next_turbine.Given as goal

abbrev pub invariant-loop-other : goal.invariant-loop-other
invariant-loop-other l = record {
  next : IfSome l.next (IsWaiting l.site l.self);
  none : IfNone l.next ((q : ℕ) → q < l.other → is_turbine (kind_of l.site q) ≡ true → is_end l.self q ≡ true);
}
