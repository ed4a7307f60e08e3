use Rattle.std.proofs.Common.{arith}
use Rattle.search_core.proofs.Writing.{rows-more, rows-part, rows-all}
use Rattle.search_core.proofs.rounds.write_rows.Goals as goal

pub returns-in_err-write_row : goal.returns-in_err-write_row
returns-in_err-write_row g c =
    let count = c.len-row-end.ensures.count in
    let test = c.loop-row-test.true in
    rows-part c.args.pool.now c.args.from c.loop-row.row c.kind.result c.members.result.now c.loop-row.invariant.from (omega (arith, count, test)) c.kind.ensures c.members.ensures.members c.from_residual.ensures.0
    c.loop-row.invariant.written c.in_err-write_row.ensures

pub loop-row-preserved : goal.loop-row-preserved
loop-row-preserved g c =
    let count = c.len-row-end.ensures.count in
    let test = c.loop-row-test.true in
    let from = c.loop-row.invariant.from in
    record {
      from = omega (arith, from);
      within = omega (arith, count, test);
      written = rows-more c.args.pool.now c.args.from c.loop-row.row c.kind.result c.members.result.now from (omega (arith, count, test)) c.kind.ensures c.members.ensures.members c.loop-row.invariant.written c.in_ok-write_row.ensures;
    }

pub returns : goal.returns
returns g c =
    let count = c.len-row-end.ensures.count in
    let within = c.loop-row.invariant.within in
    let test = c.loop-row-test.false in
    rows-all c.args.pool.now c.args.from c.loop-row.row c.requires (omega (arith, count, within, test)) c.loop-row.invariant.written
