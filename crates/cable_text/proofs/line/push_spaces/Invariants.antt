use Rattle.std.proofs.Common.{Ok, replicate}
use Rattle.cable_text.specs.declared.stream.Failed.{Failed}
use Rattle.cable_definitions.specs.Stream.{Writes}
use Rattle.cable_text.proofs.line.push_spaces.Given as goal

abbrev pub invariant-loop-place : goal.invariant-loop-place
invariant-loop-place g l =
    Writes {A = Unit {0}} {E = Failed} (Ok tt) (g.O.Sink.state l.initial.out) (g.O.Sink.state l.out) (replicate l.place 32)
