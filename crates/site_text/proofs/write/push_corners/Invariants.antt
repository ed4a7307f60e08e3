use Rattle.std.proofs.Common.{Ok, take, map}
use Rattle.std.specs.List.{concat}
use Rattle.cable_text.specs.declared.stream.Failed.{Failed}
use Rattle.cable_definitions.specs.Stream.{Writes}
use Rattle.cable_definitions.specs.Text.{corner_line}
use Rattle.site_text.proofs.write.push_corners.Given as goal

abbrev pub invariant-loop-corner : goal.invariant-loop-corner
invariant-loop-corner g l =
    Writes {A = Unit {0}} {E = Failed} (Ok tt) (g.O.Sink.state l.initial.out) (g.O.Sink.state l.out)
    (concat (map corner_line (take l.corner-index l.corners)))
