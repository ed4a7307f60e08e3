use Rattle.std.proofs.Common.{ℕ, Ok, take, map}
use Rattle.std.specs.List.{concat, enumerate_from}
use Rattle.cable_definitions.specs.declared.site.Point.{Point}
use Rattle.cable_definitions.specs.Report.{report_point}
use Rattle.cable_text.specs.declared.stream.Failed.{Failed}
use Rattle.cable_definitions.specs.Stream.{Writes}
use Rattle.plan_report.proofs.write.push_points.Given as goal

abbrev pub invariant-loop-p : goal.invariant-loop-p
invariant-loop-p g l =
    Writes {A = Unit {0}} {E = Failed} (Ok tt) (g.O.Sink.state l.initial.out) (g.O.Sink.state l.out)
    (concat (map (λ (q : ℕ × Point). report_point l.flows.site l.flows.cables q.0 q.1.name q.1.kind) (take l.p (enumerate_from 0 l.flows.site.points))))
