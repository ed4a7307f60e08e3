use Rattle.std.proofs.Common.{Ok, take, map}
use Rattle.std.specs.List.{concat}
use Rattle.cable_text.specs.declared.stream.Failed.{Failed}
use Rattle.cable_definitions.specs.Stream.{Writes}
use Rattle.cable_definitions.specs.Text.{type_line}
use Rattle.site_text.proofs.write.push_types.Given as goal

abbrev pub invariant-loop-cable_type : goal.invariant-loop-cable_type
invariant-loop-cable_type g l =
    Writes {A = Unit {0}} {E = Failed} (Ok tt) (g.O.Sink.state l.initial.out) (g.O.Sink.state l.out)
    (concat (map (type_line l.version) (take l.cable_type-index l.types)))
