use Rattle.std.proofs.Common.{Ok, take, map}
use Rattle.std.specs.List.{concat}
use Rattle.cable_text.specs.declared.stream.Failed.{Failed}
use Rattle.cable_definitions.specs.Stream.{Writes}
use Rattle.proof_lines.specs.Written.{spaced_number}
use Rattle.proof_lines.proofs.write.push_members.Given as goal

abbrev pub invariant-loop-member : goal.invariant-loop-member
invariant-loop-member g l =
    Writes {A = Unit {0}} {E = Failed} (Ok tt) (g.O.Sink.state l.initial.out) (g.O.Sink.state l.out)
    (concat (map spaced_number (take l.member-index l.members)))
