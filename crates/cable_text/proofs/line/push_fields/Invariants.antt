use Rattle.std.proofs.Common.{Ok, take, map}
use Rattle.std.specs.List.{concat}
use Rattle.cable_text.specs.declared.stream.Failed.{Failed}
use Rattle.cable_definitions.specs.Stream.{Writes}
use Rattle.cable_text.specs.Fields.{spaced}
use Rattle.cable_text.proofs.line.push_fields.Given as goal

abbrev pub invariant-loop-field : goal.invariant-loop-field
invariant-loop-field g l =
    Writes {A = Unit {0}} {E = Failed} (Ok tt) (g.O.Sink.state l.initial.out) (g.O.Sink.state l.out)
    (concat (map spaced (take l.field-index l.fields)))
