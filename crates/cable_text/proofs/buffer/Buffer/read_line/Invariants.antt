-- No pending byte is a newline, and the bytes to come are those at the start.
use Rattle.std.proofs.Common.{◌≡◌, ◌≤◌, ◌-◌, length}
use Rattle.cable_definitions.specs.Text.{HasNoNewline}
use Rattle.cable_text.specs.Lines.{to_come}
use Rattle.cable_text.proofs.buffer.Buffer.read_line.Given as goal

abbrev pub invariant-loop-self : goal.invariant-loop-self
invariant-loop-self g l = record {
  plain : HasNoNewline l.self.pending;
  bytes : to_come l.self.pending (g.S.Source.state l.src).bytes ≡ to_come l.fn.self.pending (g.S.Source.state l.fn.src).bytes;
  count : (g.S.Source.state l.fn.src).faults ≤ (g.S.Source.state l.src).faults;
}

abbrev pub decreases-loop-self : goal.decreases-loop-self
decreases-loop-self g l = 4097 - length l.self.pending
