use Rattle.std.proofs.Common.{List, sym, subst, arith}
use Rattle.cable_definitions.specs.Row.{Row}
use Rattle.proof_laws.specs.Decided.{HasPointRows}
use Rattle.search_progress.specs.Lists.{Lists, AreFew}
use Rattle.search_progress.proofs.RowsListed.{lists-then, few-most, few-none, first-whole, first-listed}
use Rattle.search_progress.proofs.rows.list_first_rows.Goals as goal

pub returns-clause-lists : goal.returns-clause-lists
returns-clause-lists c =
    let s = c.args.site.now in
    let arcs = c.args.arcs.now in
    let first = c.list_rows_of.new.pool in
    let second = c.list_rows_of-2.new.pool in
    let third = c.list_rows_of-3.new.pool in
    subst (λ (rows : List Row). Lists s arcs rows third) c.requires.empty
    (lists-then s arcs c.args.pool.now second third (lists-then s arcs c.args.pool.now first second c.list_rows_of.ensures.lists c.list_rows_of-2.ensures.lists) c.list_rows_of-3.ensures.lists)

pub returns-clause-listed : goal.returns-clause-listed
returns-clause-listed c =
    let s = c.args.site.now in
    let none = subst (λ (rows : List Row). AreFew rows 0) (sym c.requires.empty) (few-none 0) in
    let first = c.list_rows_of.ensures.few 0 none in
    let second = c.list_rows_of-2.ensures.few 256 first in
    let whole =
    first-whole s c.args.pool.now c.list_rows_of.new.pool c.list_rows_of-2.new.pool c.list_rows_of-3.new.pool c.requires.empty (c.list_rows_of.ensures.rows (few-most _ 0 1024 none (omega arith)))
    (c.list_rows_of-2.ensures.rows (few-most _ 256 1024 first (omega arith))) (c.list_rows_of-3.ensures.rows (few-most _ 512 1024 second (omega arith)))
    in
    subst (HasPointRows s c.args.arcs.now) (sym whole) (first-listed s c.args.arcs.now)

pub returns-clause-few : goal.returns-clause-few
returns-clause-few c =
    let none = subst (λ (rows : List Row). AreFew rows 0) (sym c.requires.empty) (few-none 0) in
    c.list_rows_of-3.ensures.few 512 (c.list_rows_of-2.ensures.few 256 (c.list_rows_of.ensures.few 0 none))
