use Rattle.std.proofs.Common.{ℕ, Ok, take, map}
use Rattle.std.specs.List.{concat, enumerate_from}
use Rattle.cable_definitions.specs.declared.site.CableType.{CableType}
use Rattle.cable_definitions.specs.Report.{report_type}
use Rattle.cable_text.specs.declared.stream.Failed.{Failed}
use Rattle.cable_definitions.specs.Stream.{Writes}
use Rattle.plan_report.proofs.write.push_types.Given as goal

abbrev pub invariant-loop-grade : goal.invariant-loop-grade
invariant-loop-grade g l =
    Writes {A = Unit {0}} {E = Failed} (Ok tt) (g.O.Sink.state l.initial.out) (g.O.Sink.state l.out)
    (concat (map (λ (q : ℕ × CableType). report_type l.flows.site l.flows.cables q.0) (take l.grade (enumerate_from 0 l.flows.site.types))))
