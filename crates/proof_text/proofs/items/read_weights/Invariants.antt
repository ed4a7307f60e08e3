use Rattle.std.proofs.Common.{◌≡◌, ◌≤◌, ◌+◌, length, None}
use Rattle.cable_text.specs.Lines.{ahead}
use Rattle.proof_text.specs.Items.{ReadsWeights}
use Rattle.proof_text.specs.Reading.{line_number_after}
use Rattle.proof_text.proofs.items.read_weights.Given as goal

abbrev pub invariant-loop : goal.invariant-loop
invariant-loop g l = record {
  reads : ReadsWeights (ahead l.initial.lines (g.S.Source.state l.initial.src)) (ahead l.lines (g.S.Source.state l.src)) l.weights;
  size : length l.weights ≡ l.counter;
  lines : line_number_after l.lines.lines 1 ≡ line_number_after l.initial.lines.lines (l.counter + 1);
  no_fault : l.lines.fault ≡ None;
  faults : (g.S.Source.state l.initial.src).faults ≤ (g.S.Source.state l.src).faults;
}
