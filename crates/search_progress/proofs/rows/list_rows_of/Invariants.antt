use Rattle.std.proofs.Common.{◌≡◌, ℕ, ◌+◌, ◌++◌, take}
use Rattle.cable_definitions.specs.Row.{speaks_of}
use Rattle.cable_definitions.specs.Core.{rows_of}
use Rattle.search_progress.specs.Lists.{Lists, AreFew}
use Rattle.search_progress.proofs.RowsListed.{points_from}
use Rattle.search_progress.proofs.rows.list_rows_of.Given as goal

abbrev pub invariant-loop-point : goal.invariant-loop-point
invariant-loop-point l = record {
  lists : Lists l.site l.arcs l.initial.pool l.pool;
  few : (most : ℕ) → AreFew l.initial.pool most → AreFew l.pool (most + l.point);
  rows : AreFew l.initial.pool 1024 → l.pool ≡ l.initial.pool ++ rows_of l.kind (points_from (speaks_of l.kind) 0 (take l.point l.site.points));
}
