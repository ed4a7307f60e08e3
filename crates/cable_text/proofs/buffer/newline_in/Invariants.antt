-- No byte so far is a newline.
use Rattle.std.proofs.Common.{take}
use Rattle.cable_definitions.specs.Text.{HasNoNewline}
use Rattle.cable_text.proofs.buffer.newline_in.Given as goal

abbrev pub invariant-loop-place : goal.invariant-loop-place
invariant-loop-place l = HasNoNewline (take l.place l.bytes)
