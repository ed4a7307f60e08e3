use Rattle.std.proofs.Common.{Ok, take, map}
use Rattle.std.specs.List.{concat}
use Rattle.cable_text.specs.declared.stream.Failed.{Failed}
use Rattle.cable_definitions.specs.Stream.{Writes}
use Rattle.cable_definitions.specs.Text.{pair_line}
use Rattle.site_text.proofs.write.push_pairs.Given as goal

abbrev pub invariant-loop-pair : goal.invariant-loop-pair
invariant-loop-pair g l =
    Writes {A = Unit {0}} {E = Failed} (Ok tt) (g.O.Sink.state l.initial.out) (g.O.Sink.state l.out)
    (concat (map (pair_line l.site) (take l.pair-index l.pair-items)))
