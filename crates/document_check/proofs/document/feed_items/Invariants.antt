use Rattle.cable_text.specs.Lines.{ahead}
use Rattle.document_check.specs.Feeding.{items_left}
use Rattle.document_check.proofs.Stages.{HasFed}
use Rattle.document_check.proofs.document.feed_items.Given as goal

abbrev pub invariant-items : goal.invariant-items
invariant-items g l =
    HasFed l.initial.checker l.checker (ahead l.initial.lines (g.S.Source.state l.initial.src)) (ahead l.lines (g.S.Source.state l.src)) l.initial.lines.lines l.lines.lines l.reader.fault l.lines.fault (g.S.Source.state l.initial.src).faults (g.S.Source.state l.src).faults

abbrev pub decreases-items : goal.decreases-items
decreases-items g l = items_left l.checker
