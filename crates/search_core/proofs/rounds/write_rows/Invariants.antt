use Rattle.std.proofs.Common.{◌≤◌, length, Ok}
use Rattle.cable_text.specs.declared.stream.Failed.{Failed}
use Rattle.cable_definitions.specs.Stream.{Writes}
use Rattle.search_core.proofs.Writing.{lines_between}
use Rattle.search_core.proofs.rounds.write_rows.Given as goal

abbrev pub invariant-loop-row : goal.invariant-loop-row
invariant-loop-row g l = record {
  from : l.from ≤ l.row;
  within : l.row ≤ length l.pool;
  written : Writes {A = Unit {0}} {E = Failed} (Ok tt) (g.O.Sink.state l.initial.out) (g.O.Sink.state l.out) (lines_between l.pool l.from l.row);
}
