use Rattle.std.proofs.Common.{Ok, take, map}
use Rattle.std.specs.List.{concat}
use Rattle.cable_text.specs.declared.stream.Failed.{Failed}
use Rattle.cable_definitions.specs.Stream.{Writes}
use Rattle.cable_definitions.specs.Text.{obstacle_lines}
use Rattle.site_text.proofs.write.push_obstacles.Given as goal

abbrev pub invariant-loop-obstacle : goal.invariant-loop-obstacle
invariant-loop-obstacle g l =
    Writes {A = Unit {0}} {E = Failed} (Ok tt) (g.O.Sink.state l.initial.out) (g.O.Sink.state l.out)
    (concat (map obstacle_lines (take l.obstacle-index l.obstacles)))
