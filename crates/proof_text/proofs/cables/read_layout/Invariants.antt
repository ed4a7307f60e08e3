use Rattle.std.proofs.Common.{◌≡◌, ◌≤◌, None}
use Rattle.cable_text.specs.Lines.{ahead}
use Rattle.proof_text.proofs.Layouts.{AreRead}
use Rattle.proof_text.proofs.cables.read_layout.Given as goal

abbrev pub invariant-cables : goal.invariant-cables
invariant-cables g l = record {
  are_read : AreRead l.site l.ordered l.count l._done (ahead l.initial.lines (g.S.Source.state l.initial.src)) (ahead l.lines (g.S.Source.state l.src)) l.initial.lines.lines l.lines.lines l.into;
  no_fault : l.lines.fault ≡ None;
  faults : (g.S.Source.state l.initial.src).faults ≤ (g.S.Source.state l.src).faults;
}
