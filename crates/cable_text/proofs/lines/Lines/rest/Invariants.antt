-- The bytes so far and those to come are the bytes that were to come at the start.
use Rattle.std.proofs.Common.{◌≡◌, ◌+◌, ◌-◌, ◌≤◌, length, ◌++◌}
use Rattle.cable_text.specs.Lines.{to_come}
use Rattle.cable_text.proofs.lines.Lines.rest.Given as goal

abbrev pub invariant-pieces : goal.invariant-pieces
invariant-pieces g l = record {
  bytes : to_come (l.bytes.items ++ l.buffer.pending) (g.S.Source.state l.src).bytes ≡ to_come l.fn.self.pending (g.S.Source.state l.fn.src).bytes;
  within : length l.bytes.items ≤ l.most;
  count : (g.S.Source.state l.fn.src).faults ≤ (g.S.Source.state l.src).faults;
}

abbrev pub decreases-pieces : goal.decreases-pieces
decreases-pieces g l = l.most + 4098 - (length l.bytes.items + length l.buffer.pending)
